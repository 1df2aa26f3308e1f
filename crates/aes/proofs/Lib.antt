pub mod Chunks
pub mod RoundLoops

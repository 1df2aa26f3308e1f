pub mod Tally
pub mod Inputs
pub mod Vectors

pub mod Blocks
mod FromFn
mod Padded
mod Taken
pub mod Turns

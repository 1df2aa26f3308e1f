pub mod Xor
pub mod Schedule

pub mod Schedule
pub mod Cipher
pub mod Expansion
pub mod Undoing

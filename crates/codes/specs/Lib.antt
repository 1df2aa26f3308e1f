pub mod Rows
pub mod Encryption
pub mod Integrity
pub mod Sort

pub mod Cbc
pub mod Turning

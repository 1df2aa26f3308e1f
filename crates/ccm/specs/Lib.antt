pub mod Ccm
pub mod Parts
pub mod Calls

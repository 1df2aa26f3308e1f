pub mod Padding
pub mod Worked

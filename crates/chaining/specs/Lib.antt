pub mod Words
pub mod Turns
pub mod Chaining
pub mod Chained
pub mod WordBytes

pub mod Turns
pub mod Directions
pub mod Inverses

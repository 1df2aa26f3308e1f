pub mod Field
pub mod Boxes
pub mod State
pub mod Calls

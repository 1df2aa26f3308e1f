pub mod Tests
pub mod SBoxes
pub mod Products
pub mod States

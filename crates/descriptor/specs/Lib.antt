pub mod Text
pub mod Making
pub mod Opening
pub mod Laws
pub mod Worked

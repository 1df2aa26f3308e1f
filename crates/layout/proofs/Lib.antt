pub mod Arrivals
pub mod Framing
pub mod Refusals

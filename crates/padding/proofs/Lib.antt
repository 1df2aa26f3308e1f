pub mod Laws
pub mod Least
pub mod Trailer

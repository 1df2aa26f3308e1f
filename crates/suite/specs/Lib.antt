pub mod Meaning
pub mod Fits
pub mod Laws
pub mod Mismatch
pub mod Cipher
pub mod Integrity

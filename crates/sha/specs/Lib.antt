pub mod Sha256
pub mod Sha1
pub mod Digests

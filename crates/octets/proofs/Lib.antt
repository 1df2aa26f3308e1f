pub mod Octets
pub mod BigEndian

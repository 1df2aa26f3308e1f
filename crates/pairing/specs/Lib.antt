pub mod Pairing
pub mod PairingLaws

pub mod CbcCipher
pub mod HmacIntegrity
pub mod Null
pub mod CbcSchedule
pub mod CbcTerms
pub mod HmacTerms

pub mod CcmSuite
pub mod CcmLaws

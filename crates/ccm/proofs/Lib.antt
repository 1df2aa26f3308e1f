pub mod Blockwise
pub mod BlockBytes
pub mod Masks
pub mod Chains
pub mod Sizes
pub mod Powers
pub mod RoundTrip
pub mod Steps

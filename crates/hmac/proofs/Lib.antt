mod KeyBlock
pub mod CheckValue

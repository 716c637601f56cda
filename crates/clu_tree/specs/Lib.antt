pub mod Count
pub mod Nodes

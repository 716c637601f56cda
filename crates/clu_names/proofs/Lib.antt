pub mod Absent
pub mod Best
pub mod Chains
pub mod Counts
pub mod Grown
pub mod Pieces

pub mod Listed
pub mod Joining
pub mod Writing

pub mod Fetch
pub mod Forms
pub mod Pieces
pub mod UpperHalf
pub mod Runs

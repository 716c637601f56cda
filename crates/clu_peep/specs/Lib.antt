-- Which places the rows take away, and where the bounds and targets of regions go.
pub mod Left
pub mod Moved
pub mod Peeped
pub mod Rows
pub mod Steps

-- What word code needs, the numbers that it has, whether it is well formed, its plain trees, what its expressions mean, and the
-- regions of its code.
pub mod Adding
pub mod Costs
pub mod Formed
pub mod Kept
pub mod Numbers
pub mod Plain
pub mod Rooms
pub mod Traps
pub mod Value
pub mod Widths

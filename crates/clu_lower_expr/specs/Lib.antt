-- What a lowered routine may take.
pub mod Bounds
pub mod Low
pub mod Values
pub mod Names

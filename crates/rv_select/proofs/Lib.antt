pub mod Instructions
pub mod Cutting
mod Arguments
pub mod Sizes
pub mod Ways

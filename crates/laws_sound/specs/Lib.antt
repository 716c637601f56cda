pub mod Raises
pub mod WellTyped
pub mod Sound
pub mod Counting
pub mod Builtins

pub mod Parts
pub mod Slots

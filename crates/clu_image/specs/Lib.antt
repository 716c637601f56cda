pub mod ImageFile
pub mod Faults
pub mod Header
pub mod Parts

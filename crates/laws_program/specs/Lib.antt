pub mod Observed
pub mod Stands
pub mod Layers
pub mod Refused
pub mod Samples

pub mod Arms
pub mod Cuts
pub mod Regions
pub mod Seen

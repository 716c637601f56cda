pub mod Cuts
pub mod Lengths
pub mod Next
pub mod Walk

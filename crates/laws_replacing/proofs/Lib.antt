pub mod Found
pub mod Resting
pub mod Programs

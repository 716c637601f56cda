pub mod Selectors
pub mod Found

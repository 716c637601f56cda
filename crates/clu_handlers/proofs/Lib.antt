pub mod Cutting
pub mod Nesting
pub mod Seeing

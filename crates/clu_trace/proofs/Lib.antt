pub mod Entries
pub mod StackKept
pub mod Walking

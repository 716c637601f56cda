-- What constants and types come to.
pub mod Values
pub mod Inserted
pub mod Lists
pub mod Names
pub mod Agreeing
pub mod Known
pub mod Indexed
pub mod Steps
pub mod Graph
pub mod Operators
pub mod Settled
pub mod Standing
pub mod Lost
pub mod Circular
pub mod Parameters
pub mod Meant

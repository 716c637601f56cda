-- What the laws say.
pub mod Laws
pub mod Reached
pub mod Names

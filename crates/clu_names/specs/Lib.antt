pub mod Denotes
pub mod Latest
pub mod Order
pub mod Scopes

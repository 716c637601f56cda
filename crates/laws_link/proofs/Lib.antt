pub mod CodeWords
pub mod Unique
pub mod Closure
pub mod Least
pub mod Names
pub mod Tables
pub mod Holes
pub mod Strings

-- What objects are made of, their bytes, and how these are read.
pub mod Ahead
pub mod Holes
pub mod Nesting
pub mod ObjectFile
pub mod ObjectReading
pub mod Objects

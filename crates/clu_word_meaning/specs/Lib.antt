-- What word code means: the world that it acts on, its statements, and its routines at each level.
pub mod Growing
pub mod Levels
pub mod Words
pub mod World

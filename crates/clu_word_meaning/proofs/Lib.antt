pub mod Going
pub mod Lasting
pub mod Stops
pub mod Turns
pub mod Writing

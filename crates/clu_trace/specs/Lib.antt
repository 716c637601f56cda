-- What a map says of an image, registers, what the words of a stack say, and what a trace is seen as.
pub mod Maps
pub mod Registers
pub mod Traces
pub mod Walk

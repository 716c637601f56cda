-- What flat code takes of a frame and of an image, which steps word code becomes, and what a routine hands on to them.
pub mod Flattened
pub mod Flattening
pub mod Labels
pub mod Plain
pub mod Regions
pub mod Standing
pub mod Steps
pub mod Within

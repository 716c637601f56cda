-- What flat code means: an image of it, one step at a time on one machine with a stack, a store, input and output.
pub mod Image
pub mod Machine
pub mod Rising

-- Numbers that a program has, and what its image is when it starts.
pub mod Images
pub mod Numbers

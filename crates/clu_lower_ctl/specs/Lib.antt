-- What is asked of nodes that are lowered.
pub mod Inside

-- What an image holds of flattened routines, and well-formed word code over plain trees.
pub mod Calls
pub mod Ending
pub mod Finding
pub mod Flattened
pub mod Formed
pub mod Limits
pub mod Promises
pub mod Tables

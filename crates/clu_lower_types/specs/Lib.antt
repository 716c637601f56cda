-- What lowering reads of a checked file.
pub mod Declarations
pub mod Types
pub mod Headings
pub mod Given

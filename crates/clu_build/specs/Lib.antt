-- What the errors of the crates below come to, what entries do to a library and why they are refused, and the text of a
-- cross-reference.
pub mod Entering
pub mod Errors
pub mod Numbering
pub mod Programs
pub mod References
pub mod Refusals

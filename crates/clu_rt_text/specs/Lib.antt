-- What is known of the code of an operation, and which operations texts define.
pub mod Operations
pub mod Texts

-- The table of built-in operations.
pub mod Names
pub mod Operation
pub mod Table
pub mod Rows
pub mod Built
pub mod Slots

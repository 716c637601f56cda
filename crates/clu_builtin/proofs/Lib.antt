-- The code's table is the table.
pub mod Same
pub mod Found
pub mod Grown
pub mod Building

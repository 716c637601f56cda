pub mod Numeral
pub mod Taken

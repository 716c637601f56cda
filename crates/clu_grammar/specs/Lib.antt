pub mod Choice
pub mod Grammar
pub mod Kinds
pub mod Language
pub mod Rows

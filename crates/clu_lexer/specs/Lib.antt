pub mod Classes
pub mod Places
pub mod Scanner
pub mod Separators
pub mod Symbols
pub mod Tokens
pub mod Words

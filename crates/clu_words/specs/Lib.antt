pub mod Command
pub mod Form
pub mod Names
pub mod Number
pub mod Reading

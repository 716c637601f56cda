pub mod Fields
pub mod InMemory
pub mod Outside
pub mod Rules
pub mod StoredFiles

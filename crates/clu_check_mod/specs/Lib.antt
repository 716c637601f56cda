pub mod Answered
pub mod Asking
pub mod Bad
pub mod Modules
pub mod Naming
pub mod Notes
pub mod Refusals
pub mod Walks

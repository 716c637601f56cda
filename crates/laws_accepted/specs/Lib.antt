pub mod Legal
pub mod Specified
pub mod Lawful
pub mod Accepted
pub mod Instances
pub mod Standing
pub mod Expressions

pub mod Places
pub mod Marks
pub mod Entering
pub mod Closing
pub mod Ordered
pub mod Levels

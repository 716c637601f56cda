mod Arms
pub mod Ascending
mod Closing
mod Declared
pub mod Differing
pub mod Giving
pub mod Included
mod Keys
mod Lists
mod Needing
mod Unmeeting

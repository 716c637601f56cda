pub mod Firsts
pub mod From
pub mod Growing
pub mod Keeping
pub mod Sorts
pub mod Steps
pub mod Later

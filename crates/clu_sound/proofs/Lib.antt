pub mod Growing
pub mod Judging
pub mod Parting
pub mod PartsMet

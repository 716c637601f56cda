pub mod Counted
pub mod Fitting
pub mod Gathered
pub mod Ifs
pub mod Lists

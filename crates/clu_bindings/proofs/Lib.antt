pub mod Appending
pub mod Growing
pub mod Labelled
pub mod Outlasting
pub mod Outlined
pub mod Owning

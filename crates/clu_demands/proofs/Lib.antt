-- Lemmas on needs, and on what is brought into an arena for them.
pub mod Lists
pub mod Fitting
pub mod Bringing
pub mod Seen
pub mod Once
pub mod Answering
pub mod Exporting
pub mod Closing

-- Objects and their words in the store.
pub mod Layout
pub mod Shown
pub mod Held
pub mod Stored
pub mod Kept

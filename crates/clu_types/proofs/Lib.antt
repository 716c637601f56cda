-- Lemmas on terms and arenas.
pub mod Equality
pub mod Parts
pub mod Numbered
pub mod Arenas
pub mod PutIn
pub mod AllParts
pub mod PartsOf
pub mod Needing
pub mod Ends
pub mod Remaking
pub mod Copying
pub mod Carrying
pub mod Tables
pub mod Identity
pub mod Inclusion
pub mod Ascending

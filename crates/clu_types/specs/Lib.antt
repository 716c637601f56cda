-- Types as finite terms, and the terms of an arena.
pub mod CluType
pub mod Interned
pub mod Arena
pub mod Included
pub mod Substituted
pub mod Actual
pub mod Renumbered
pub mod PartsOf
pub mod Numbering
pub mod Carried
pub mod Narrower
pub mod Specs

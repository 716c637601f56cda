-- Laws of objects in files.
pub mod FieldLaws
pub mod ListLaws
pub mod Texts
pub mod NameLaws
pub mod HoleLaws
pub mod RegionLaws
pub mod NestingLaws
pub mod Objects
pub mod ReadLaws
pub mod Skipping
pub mod Turns

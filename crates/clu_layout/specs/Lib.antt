-- Objects, cells and primitive operations, and the cost of objects in words of store.
pub mod Cost
pub mod Objects
pub mod SameType
pub mod Places
pub mod Actions
pub mod PlainOperations
pub mod NumberOperations
pub mod StringOperations
pub mod ArrayOperations
pub mod SequenceOperations
pub mod RecordOperations
pub mod OneofOperations
pub mod StreamOperations
pub mod Primitive
pub mod Openers
pub mod Computing

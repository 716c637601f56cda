-- What is known of the code of operations: of those that use operations of components, of those of a selector, of force,
-- and which operations texts define.
pub mod Schemes
pub mod Selectors
pub mod Texts

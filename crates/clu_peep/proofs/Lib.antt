pub mod Gone
pub mod Items
pub mod Nesting
pub mod Passing
pub mod Placed
pub mod Shorter

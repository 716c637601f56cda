pub mod Found
pub mod Noting
pub mod Reckoned
pub mod Outlined
pub mod Literals

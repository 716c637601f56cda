pub mod Checked
pub mod Naming
pub mod Noted
pub mod Sources
pub mod Specified
pub mod Violations

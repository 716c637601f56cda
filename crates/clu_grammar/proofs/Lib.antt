pub mod Deterministic
pub mod Flags
pub mod Lookahead
pub mod Productive
pub mod Runs
pub mod Tests
pub mod Weights

-- The parts of the runtime.
pub mod Part
pub mod Regions
pub mod Search
pub mod Start
pub mod Tables

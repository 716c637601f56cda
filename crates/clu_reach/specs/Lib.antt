-- What uses and parameters are, what an instance takes, what a program may start with, what it reaches, and why it is refused.
pub mod Causes
pub mod Found
pub mod Parameters
pub mod Reach
pub mod Refused
pub mod Starts
pub mod Tables
pub mod Uses
pub mod Walked

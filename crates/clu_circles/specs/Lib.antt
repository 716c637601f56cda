-- Numbers that lead to others.
pub mod Circles
pub mod Search

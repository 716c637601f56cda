-- What is held of constants, and what is known of them without their texts.
pub mod Held
pub mod Outlines

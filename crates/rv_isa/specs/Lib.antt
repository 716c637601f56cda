pub mod Image
pub mod Table
pub mod Fields
pub mod Decoded
pub mod Valid
pub mod Encoded

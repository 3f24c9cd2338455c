pub mod Bytes
pub mod Parts
pub mod Limits
pub mod Code

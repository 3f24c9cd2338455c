pub mod Code
pub mod Spread

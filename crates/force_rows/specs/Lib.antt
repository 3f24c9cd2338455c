pub mod Code
pub mod Walk

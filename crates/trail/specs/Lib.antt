pub mod Code
pub mod Walk
pub mod Call

pub mod Text
pub mod Code

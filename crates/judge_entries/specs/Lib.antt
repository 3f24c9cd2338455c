pub mod Code
pub mod Entry

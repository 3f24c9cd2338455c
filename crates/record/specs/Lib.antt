pub mod Record
pub mod Fields
pub mod Code

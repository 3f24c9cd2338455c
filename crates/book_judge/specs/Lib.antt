pub mod Code
pub mod Entries

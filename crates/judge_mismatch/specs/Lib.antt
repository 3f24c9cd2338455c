pub mod Code
pub mod Maps
pub mod Entries

pub mod Adds
pub mod Rows
pub mod Chains
pub mod Entries
pub mod Depths
pub mod Passing
pub mod Marking

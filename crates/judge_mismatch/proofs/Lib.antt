pub mod Heads
pub mod Laws
pub mod Rows
pub mod Own

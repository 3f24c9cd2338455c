pub mod Draft
pub mod Code
pub mod Composed

pub mod Answer
pub mod IllFormed
pub mod Invalid
pub mod Verdict
pub mod Refusal
pub mod Code

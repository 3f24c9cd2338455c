pub mod Point
pub mod Reading
pub mod Written
pub mod Code
pub mod Said
pub mod Converted

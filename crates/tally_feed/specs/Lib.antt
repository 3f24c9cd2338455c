pub mod Tally
pub mod Printed
pub mod Code

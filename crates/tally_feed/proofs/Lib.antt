pub mod Laws
pub mod AtHand
pub mod Printed

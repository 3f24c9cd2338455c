pub mod Laws
pub mod Looked
pub mod Versions

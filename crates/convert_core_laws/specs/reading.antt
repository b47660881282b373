pub mod Identifiers
pub mod Laws
pub mod Opened
pub mod Saved

pub mod Asked
pub mod Identifier
pub mod Label
pub mod Reading
pub mod Settings

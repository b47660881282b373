pub mod Bytes
pub mod Imports
pub mod Marking
pub mod Reading
pub mod Refusing
pub mod Rounds
pub mod Tried
pub mod Unturned

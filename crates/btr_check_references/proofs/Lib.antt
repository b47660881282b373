pub mod Blocks
pub mod Full
pub mod Imports
pub mod Joining
pub mod Order

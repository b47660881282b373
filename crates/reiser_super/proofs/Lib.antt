pub mod Clean
pub mod Footprint
pub mod Imports
pub mod Waiting

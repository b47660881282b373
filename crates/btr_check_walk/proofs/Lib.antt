pub mod Faults
pub mod Imports
pub mod Orders
pub mod Steps
pub mod Told
pub mod Visiting

pub mod Finding
pub mod Imports
pub mod Joining
pub mod Sets

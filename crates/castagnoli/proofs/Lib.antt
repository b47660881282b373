pub mod Imports
pub mod Linear

pub mod Imports
pub mod Looking

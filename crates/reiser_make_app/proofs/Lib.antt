pub mod Counts
pub mod Imports
pub mod Making
pub mod Outcomes

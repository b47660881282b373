pub mod Asking
pub mod Gathered
pub mod Imports
pub mod Names
pub mod Noting
pub mod Own
pub mod Tallying
pub mod Telling

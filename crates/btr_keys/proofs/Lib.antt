pub mod Imports
pub mod Layouts
pub mod Records
pub mod Repeats
pub mod Starts

pub mod Back
pub mod Lying

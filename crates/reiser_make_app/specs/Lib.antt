pub mod Ending
pub mod Order
pub mod Outcome

pub mod Crashing
pub mod Opening

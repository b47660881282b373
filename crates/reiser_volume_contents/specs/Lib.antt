pub mod Answers
pub mod Holds
pub mod Laws
pub mod Reads

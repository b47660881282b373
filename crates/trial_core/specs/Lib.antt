pub mod Answers
pub mod Laws
pub mod Parts
pub mod Round
pub mod Same
pub mod Trial

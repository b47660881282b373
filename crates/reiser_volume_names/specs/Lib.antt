pub use Rattle.castagnoli.specs as castagnoli
pub mod Again
pub mod Counts
pub mod Crowds
pub mod Extended
pub mod Known
pub mod Laws
pub mod Links
pub mod Names
pub mod Once
pub mod Passes
pub mod Private
pub mod Refuses
pub mod Tally

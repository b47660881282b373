pub use Rattle.csum_kinds.proofs as csum_kinds
pub mod Answers
pub mod Constants
pub mod Imports
pub mod Mirrors
pub mod ReadBack
pub mod SumNumbers

pub use Rattle.btr_keys.proofs as btr_keys
pub mod BodyLengths
pub mod Imports
pub mod Inline
pub mod InlineLaw
pub mod Records

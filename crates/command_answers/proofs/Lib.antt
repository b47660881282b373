pub use Rattle.refusals.proofs.outside as outside
pub mod Handed

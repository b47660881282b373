pub use Rattle.outside.proofs as outside
pub mod Synced

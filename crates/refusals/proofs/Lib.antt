pub use Rattle.outside.proofs as outside

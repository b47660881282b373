pub use Rattle.outside.proofs as outside
pub mod Imports
pub mod Prefix
pub mod Pushing

pub use Rattle.outside.proofs as outside
pub mod Backs
pub mod Finding
pub mod Fronts
pub mod Halves
pub mod Imports
pub mod Stepping
pub mod Turning

pub use Rattle.sink_text.proofs.outside as outside
pub mod Comparing
pub mod Copies
pub mod FileMarks
pub mod Functions
pub mod Holding
pub mod Imports
pub mod Joined
pub mod LineLemmas
pub mod MarkLemmas
pub mod Messages
pub mod PathParts

pub use Rattle.refusals.proofs.outside as outside
pub mod Apart
pub mod Ascending
pub mod Breaks
pub mod Holding
pub mod Imports
pub mod Inners
pub mod Leaves
pub mod NodeBack
pub mod Putting
pub mod ReadBack
pub mod Refilled
pub mod Rows
pub mod Spelled

pub use Rattle.btr_tree.proofs as btr_tree
pub mod ChunkCount
pub mod Counted
pub mod Dividing
pub mod Enough
pub mod Imports
pub mod Lists
pub mod Placing
pub mod RunSums
pub mod Sets
pub mod Sound
pub mod Starts
pub mod Tables
pub mod Tallies
pub mod Told
pub mod Uses

pub use Rattle.fs_paths.proofs as fs_paths
pub use Rattle.reiser_items.proofs as reiser_items
pub use Rattle.reiser_items.proofs.reiser_node as reiser_node
pub use Rattle.reiser_walk.proofs as reiser_walk
pub mod Broken
pub mod Checking
pub mod Imports
pub mod Nodes
pub mod Ordered
pub mod Reaching
pub mod Reading
pub mod Repeats
pub mod Summaries
pub mod Tables

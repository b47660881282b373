pub use Rattle.btr_space_items.specs as btr_space_items
pub mod Chunks
pub mod Extents
pub mod Laws
pub mod Merging
pub mod Nodes
pub mod Own
pub mod OwnLaws
pub mod Roots
pub mod Stream
pub mod StreamLaws
pub mod Sums

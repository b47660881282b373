pub use Rattle.fs_paths.specs.fs_rows as fs_rows
pub use Rattle.reiser_bitmap.specs.outside as outside
pub use Rattle.reiser_bitmap.specs.refusals as refusals
pub use Rattle.reiser_bitmap.specs as reiser_bitmap
pub use Rattle.reiser_items.specs as reiser_items
pub use Rattle.reiser_items.specs.reiser_node as reiser_node
pub use Rattle.reiser_walk.specs as reiser_walk
pub use Rattle.reiser_items.specs.vol_block as vol_block
pub mod Items
pub mod Keys
pub mod Kinds
pub mod Laws
pub mod Leaves
pub mod Names
pub mod Nodes
pub mod Reach
pub mod Read
pub mod Rules
pub mod Summary
pub mod Table

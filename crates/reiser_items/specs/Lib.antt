pub use Rattle.reiser_node.specs as reiser_node
pub use Rattle.reiser_node.specs.vol_block as vol_block
pub use Rattle.reiser_node.specs.reiserfs_format as reiserfs_format
pub mod Entries
pub mod Order
pub mod Pointers
pub mod Stat

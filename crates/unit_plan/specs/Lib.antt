pub use Rattle.btr_tree.specs.btr_keys as btr_keys
pub use Rattle.btr_tree.specs.btr_node as btr_node
pub use Rattle.btr_tree.specs as btr_tree
pub use Rattle.convert_options.specs as convert_options
pub use Rattle.btr_tree.specs.csum_kinds as csum_kinds
pub use Rattle.btr_tree.specs.btrfs_format as btrfs_format
pub mod Choice
pub mod Chunks
pub mod Dividing
pub mod Laws
pub mod Needed
pub mod Pieces
pub mod Places
pub mod Roles
pub mod Staying
pub mod Sums
pub mod Trees

pub use Rattle.btr_node.specs.btr_keys as btr_keys
pub use Rattle.btr_node.specs as btr_node
pub use Rattle.btr_node.specs.castagnoli as castagnoli
pub use Rattle.btr_node.specs.csum_kinds as csum_kinds
pub use Rattle.btr_node.specs.outside as outside
pub use Rattle.btr_node.specs.refusals as refusals
pub use Rattle.btr_node.specs.vol_block as vol_block
pub use Rattle.btr_node.specs.btrfs_format as btrfs_format
pub mod Events
pub mod Laws
pub mod Map
pub mod Node
pub mod Nodes
pub mod Stack
pub mod Tree
pub mod Visits
pub mod Walks

pub use Rattle.btr_keys.specs as btr_keys
pub use Rattle.csum_kinds.specs.castagnoli as castagnoli
pub use Rattle.csum_kinds.specs as csum_kinds
pub use Rattle.refusals.specs.outside as outside
pub use Rattle.refusals.specs as refusals
pub use Rattle.refusals.specs.vol_block as vol_block
pub use Rattle.btr_keys.specs.btrfs_format as btrfs_format
pub mod Areas
pub mod Draft
pub mod Head
pub mod Inner
pub mod Laws
pub mod Leaf
pub mod NodeSize
pub mod Order
pub mod Records
pub mod Rules
pub mod Sum
pub mod Writer

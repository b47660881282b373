pub use Rattle.btr_keys.specs as btr_keys
pub use Rattle.btr_keys.specs.btrfs_format as btrfs_format
pub mod BlockGroup
pub mod Chunk
pub mod DevExtent
pub mod Device
pub mod ExtentBody
pub mod ExtentHead
pub mod InlineRef
pub mod Laws
pub mod RootItem
pub mod RootRef
pub mod Stripe

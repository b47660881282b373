pub use Rattle.btr_space_items.specs.btrfs_format as btrfs_format
pub mod Constant
pub mod Laws
pub mod Rules
pub mod Sums
pub mod Super

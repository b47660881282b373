pub use Rattle.fs_paths.specs.vol_block as vol_block
pub use Rattle.btr_node.specs.btrfs_format as btrfs_format
pub mod Extents
pub mod Groups
pub mod Inodes
pub mod Lists
pub mod Places
pub mod Spots

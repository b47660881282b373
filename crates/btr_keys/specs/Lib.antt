pub use Rattle.vol_block.specs as vol_block
pub use Rattle.vol_block.specs.btrfs_format as btrfs_format
pub mod DirEntry
pub mod Extref
pub mod FileExtent
pub mod Inode
pub mod InodeRef
pub mod Key
pub mod Laws
pub mod Layout
pub mod Repeated
pub mod Stamp

pub use Rattle.reiserfs_format.specs as reiserfs_format
pub mod Journal
pub mod Laws
pub mod Rules
pub mod State
pub mod Superblock

pub use Rattle.fs_rows.specs as fs_rows
pub use Rattle.fs_rows.specs.vol_block as vol_block
pub mod Links
pub mod Paths
pub mod Places
pub mod Queue
pub mod Reached
pub mod Spread

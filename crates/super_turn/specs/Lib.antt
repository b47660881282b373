pub use Rattle.outside.specs as outside
pub use Rattle.outside.specs.vol_block as vol_block
pub mod Found
pub mod Laws
pub mod Marked
pub mod PutBack
pub mod Turned

pub use Rattle.outside.specs as outside
pub use Rattle.outside.specs.vol_block as vol_block

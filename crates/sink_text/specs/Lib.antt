pub use Rattle.outside.specs as outside
pub use Rattle.outside.specs.vol_block as vol_block
pub mod Digits
pub mod Escape
pub mod Label
pub mod Pushes
pub mod Text

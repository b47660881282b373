pub use Rattle.sink_text.specs.outside as outside
pub use Rattle.vol_block.specs as vol_block
pub mod Bytes
pub mod Content
pub mod Held
pub mod Kinds
pub mod Mark
pub mod Marker
pub mod Parts
pub mod Pieces
pub mod Rows
pub mod Shared
pub mod Text

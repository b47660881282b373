pub use Rattle.refusals.specs.outside as outside
pub use Rattle.refusals.specs as refusals
pub use Rattle.refusals.specs.vol_block as vol_block
pub mod Answers

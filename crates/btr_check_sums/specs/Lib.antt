pub use Rattle.btr_check_rules.specs as btr_check_rules
pub use Rattle.btr_check_rules.specs.btr_reader as btr_reader
pub use Rattle.number_runs.specs as number_runs
pub mod Blocks
pub mod Cover
pub mod DataSums
pub mod Parts
pub mod PlaceRuns
pub mod SumItems
pub mod SumPasses
pub mod TreeUses
pub mod Uses

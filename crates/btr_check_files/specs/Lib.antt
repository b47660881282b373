pub mod Counts
pub mod Pass
pub mod Told
pub use Rattle.btr_check_rules.specs as btr_check_rules
pub use Rattle.btr_check_rules.specs.btr_reader as btr_reader

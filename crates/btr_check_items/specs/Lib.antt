pub use Rattle.btr_check_rules.specs as btr_check_rules
pub use Rattle.btr_check_rules.specs.btr_reader as btr_reader
pub mod ExtentTests
pub mod Extents
pub mod Inodes
pub mod Refs
pub mod Reserved
pub mod Runs

pub use Rattle.btr_check_rules.specs as btr_check_rules
pub use Rattle.btr_check_rules.specs.btr_reader as btr_reader
pub mod Devices
pub mod Failing
pub mod Nodes
pub mod Noted
pub mod Read
pub mod Roots
pub mod Tests
pub mod Totals

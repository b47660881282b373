pub use Rattle.btr_check_references.specs as btr_check_references
pub use Rattle.btr_check_references.specs.btr_check_rules as btr_check_rules
pub use Rattle.btr_check_references.specs.btr_reader as btr_reader

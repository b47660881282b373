pub use Rattle.btr_check_rules.specs as btr_check_rules
pub use Rattle.btr_check_rules.specs.btr_reader as btr_reader
pub use Rattle.command_answers.specs as command_answers
pub mod Answers
pub mod Parts
pub mod Walks

pub use Rattle.command_answers.specs as command_answers
pub use Rattle.command_answers.specs.refusals as refusals
pub mod Lines
pub mod Words

pub use Rattle.volume_state.specs as volume_state
pub mod Mending
pub mod Opened
pub mod Opens
pub mod Planned
pub mod Prepared
pub mod Recovered
pub mod RecoveryAnswers
pub mod RecoveryLaws
pub mod RollbackAnswers
pub mod RollbackLaws
pub mod RolledBack
pub mod SavedLaws
pub mod Writing

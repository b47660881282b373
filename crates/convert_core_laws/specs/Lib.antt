pub use Rattle.btr_check_rules.specs as btr_check_rules
pub mod Converted
pub mod Kept
pub mod Mapped
pub mod Read
pub mod Sound
pub mod going_back
pub mod opening
pub mod placement
pub mod reading
pub mod soundness

use Rattle.rollback_core.proofs.RecoveryKeeping.{keeps}
use Rattle.rollback_core.proofs.recovery_laws.recovery_keeps.Goals as goal

pub returns : goal.returns
returns c = keeps

use Rattle.rollback_core.proofs.RecoveryKeeping.{counts}
use Rattle.rollback_core.proofs.recovery_laws.recovery_counts.Goals as goal

pub returns : goal.returns
returns c = counts

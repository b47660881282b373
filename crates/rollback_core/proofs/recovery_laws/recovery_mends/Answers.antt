use Rattle.rollback_core.proofs.RecoveryKeeping.{mends}
use Rattle.rollback_core.proofs.recovery_laws.recovery_mends.Goals as goal

pub returns : goal.returns
returns c = mends

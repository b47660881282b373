use Rattle.rollback_core.proofs.RecoveryKeeping.{stays}
use Rattle.rollback_core.proofs.recovery_laws.recovery_stays.Goals as goal

pub returns : goal.returns
returns c = stays

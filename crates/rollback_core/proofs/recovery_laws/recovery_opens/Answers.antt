use Rattle.rollback_core.proofs.Opening.{recovery_opens}
use Rattle.rollback_core.proofs.recovery_laws.recovery_opens.Goals as goal

pub returns : goal.returns
returns c = recovery_opens

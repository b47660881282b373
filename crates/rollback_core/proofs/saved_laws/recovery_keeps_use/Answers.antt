use Rattle.rollback_core.proofs.Recovering.{recovery_keeps_use}
use Rattle.rollback_core.proofs.saved_laws.recovery_keeps_use.Goals as goal

pub returns : goal.returns
returns c = recovery_keeps_use c.recovery_keeps.ensures

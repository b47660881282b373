use Rattle.rollback_core.proofs.Again.{recovery_goes_on}
use Rattle.rollback_core.proofs.recovery_laws.recovery_goes_on.Goals as goal

pub returns : goal.returns
returns c = recovery_goes_on

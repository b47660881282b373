use Rattle.rollback_core.proofs.RollbackKeeping.{rollback_goes_on}
use Rattle.rollback_core.proofs.rollback_laws.rollback_goes_on.Goals as goal

pub returns : goal.returns
returns c = rollback_goes_on

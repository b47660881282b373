use Rattle.rollback_core.proofs.RollbackKeeping.{rollback_keeps}
use Rattle.rollback_core.proofs.rollback_laws.rollback_keeps.Goals as goal

pub returns : goal.returns
returns c = rollback_keeps

use Rattle.rollback_core.proofs.RecoveringBack.{rolls_back}
use Rattle.rollback_core.proofs.rollback_laws.recovery_rolls_back.Goals as goal

pub returns : goal.returns
returns c = rolls_back

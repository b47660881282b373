use Rattle.rollback_core.proofs.Imaged.{can_go_back}
use Rattle.rollback_core.proofs.prepared.refuse_used.Goals as goal

pub returns-in-None-clause-told : goal.returns-in-None-clause-told
returns-in-None-clause-told c = λ disk has none. can_go_back disk has (rw c.in-None.is at none)

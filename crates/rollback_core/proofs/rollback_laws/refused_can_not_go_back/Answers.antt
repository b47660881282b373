use Rattle.rollback_core.proofs.Refusing.{refused_can_not}
use Rattle.rollback_core.proofs.rollback_laws.refused_can_not_go_back.Goals as goal

pub returns : goal.returns
returns c = refused_can_not

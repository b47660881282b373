use Rattle.rollback_core.proofs.Staying.{parts_decide_saved}
use Rattle.rollback_core.proofs.saved_laws.parts_decide_saved.Goals as goal

pub returns : goal.returns
returns c = parts_decide_saved c.metadata_decides.ensures

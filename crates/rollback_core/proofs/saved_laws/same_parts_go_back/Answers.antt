use Rattle.rollback_core.proofs.Staying.{same_parts_go_back}
use Rattle.rollback_core.proofs.saved_laws.same_parts_go_back.Goals as goal

pub returns : goal.returns
returns c = same_parts_go_back c.parts_decide_saved.ensures

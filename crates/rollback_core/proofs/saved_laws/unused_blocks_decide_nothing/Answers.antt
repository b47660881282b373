use Rattle.rollback_core.proofs.Staying.{unused_blocks_decide_nothing}
use Rattle.rollback_core.proofs.saved_laws.unused_blocks_decide_nothing.Goals as goal

pub returns : goal.returns
returns c = unused_blocks_decide_nothing c.unused_blocks_lie_apart.ensures c.same_parts_go_back.ensures

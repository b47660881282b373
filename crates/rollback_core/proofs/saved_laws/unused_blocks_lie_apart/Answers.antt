use Rattle.rollback_core.proofs.Apart.{unused_blocks_lie_apart}
use Rattle.rollback_core.proofs.saved_laws.unused_blocks_lie_apart.Goals as goal

pub returns : goal.returns
returns c = unused_blocks_lie_apart

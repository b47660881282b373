use Rattle.rollback_core.proofs.Using.{used_blocks_decide_use}
use Rattle.rollback_core.proofs.saved_laws.used_blocks_decide_use.Goals as goal

pub returns : goal.returns
returns c = used_blocks_decide_use

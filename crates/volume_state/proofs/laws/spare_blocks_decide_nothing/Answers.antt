use Rattle.volume_state.proofs.Staying.{spare_blocks_decide_nothing}
use Rattle.volume_state.proofs.laws.spare_blocks_decide_nothing.Goals as goal

pub returns : goal.returns
returns c = spare_blocks_decide_nothing

use Rattle.reiser_volume.proofs.Unchanged.{same_volume}
use Rattle.reiser_volume.proofs.laws.used_blocks_decide.Goals as goal

pub returns : goal.returns
returns c = same_volume

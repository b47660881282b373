use Rattle.reiser_volume.proofs.Unchanged.{front_same_volume}
use Rattle.reiser_volume.proofs.laws.front_of_super_decides.Goals as goal

pub returns : goal.returns
returns c = front_same_volume

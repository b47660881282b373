use Rattle.reiser_volume.proofs.Bounds.{accepted_is_small}
use Rattle.reiser_volume.proofs.laws.accepted_is_small.Goals as goal

pub returns : goal.returns
returns c = accepted_is_small

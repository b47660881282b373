use Rattle.reiser_volume.proofs.Owners.{owners_are_one}
use Rattle.reiser_volume.proofs.laws.owners_are_one.Goals as goal

pub returns : goal.returns
returns c = owners_are_one

use Rattle.reiser_make_laws.proofs.Rowed.{are_as_described}
use Rattle.reiser_make_laws.proofs.laws.samples_are_as_described.Goals as goal

pub returns : goal.returns
returns c = are_as_described

use Rattle.reiser_make_laws.proofs.Accepted.{accepted}
use Rattle.reiser_make_laws.proofs.laws.samples_are_accepted.Goals as goal

pub returns : goal.returns
returns c = accepted

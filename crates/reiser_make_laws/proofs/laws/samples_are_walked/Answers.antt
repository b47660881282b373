use Rattle.reiser_make_laws.proofs.Walked.{samples_walked}
use Rattle.reiser_make_laws.proofs.laws.samples_are_walked.Goals as goal

pub returns : goal.returns
returns c = samples_walked

use Rattle.reiser_make_laws.proofs.Cleanness.{clean}
use Rattle.reiser_make_laws.proofs.laws.samples_are_clean.Goals as goal

pub returns : goal.returns
returns c = clean

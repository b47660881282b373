use Rattle.reiser_make_laws.proofs.Accepted.{have_names}
use Rattle.reiser_make_laws.proofs.laws.samples_have_names.Goals as goal

pub returns : goal.returns
returns c = have_names

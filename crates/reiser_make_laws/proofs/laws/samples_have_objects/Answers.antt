use Rattle.reiser_make_laws.proofs.Accepted.{have_objects}
use Rattle.reiser_make_laws.proofs.laws.samples_have_objects.Goals as goal

pub returns : goal.returns
returns c = have_objects

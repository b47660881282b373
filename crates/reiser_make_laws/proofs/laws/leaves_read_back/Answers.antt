use Rattle.reiser_make_laws.proofs.Leaves.{leaves_back}
use Rattle.reiser_make_laws.proofs.laws.leaves_read_back.Goals as goal

pub returns : goal.returns
returns c = leaves_back

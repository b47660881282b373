use Rattle.reiser_make_laws.proofs.Held.{leaf_held}
use Rattle.reiser_make_laws.proofs.laws.sample_leaves_read_back.Goals as goal

pub returns : goal.returns
returns c = leaf_held

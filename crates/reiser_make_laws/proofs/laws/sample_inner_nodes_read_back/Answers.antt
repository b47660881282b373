use Rattle.reiser_make_laws.proofs.Held.{inner_held}
use Rattle.reiser_make_laws.proofs.laws.sample_inner_nodes_read_back.Goals as goal

pub returns : goal.returns
returns c = inner_held

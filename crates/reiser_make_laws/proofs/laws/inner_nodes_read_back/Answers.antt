use Rattle.reiser_make_laws.proofs.Nodes.{nodes_back}
use Rattle.reiser_make_laws.proofs.laws.inner_nodes_read_back.Goals as goal

pub returns : goal.returns
returns c = nodes_back

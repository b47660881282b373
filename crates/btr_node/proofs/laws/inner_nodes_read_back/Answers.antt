use Rattle.btr_node.proofs.NodeBack.{inner_back, inner_children}
use Rattle.btr_node.proofs.laws.inner_nodes_read_back.Goals as goal

pub returns : goal.returns
returns c = λ draft right inner some. (inner_back draft right inner some, inner_children draft right inner)

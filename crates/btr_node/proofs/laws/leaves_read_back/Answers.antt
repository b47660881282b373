use Rattle.btr_node.proofs.NodeBack.{leaf_back, leaf_items}
use Rattle.btr_node.proofs.laws.leaves_read_back.Goals as goal

pub returns : goal.returns
returns c = λ draft right leaf. (leaf_back draft right leaf, leaf_items draft right leaf)

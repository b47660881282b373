use Rattle.btr_tree_writer.proofs.Others.{by_nodes}
use Rattle.btr_tree_writer.proofs.laws.trees_stand_by_nodes.Goals as goal

pub returns : goal.returns
returns c = by_nodes

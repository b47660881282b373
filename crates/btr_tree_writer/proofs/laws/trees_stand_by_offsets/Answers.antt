use Rattle.btr_tree_writer.proofs.Others.{by_offsets}
use Rattle.btr_tree_writer.proofs.laws.trees_stand_by_offsets.Goals as goal

pub returns : goal.returns
returns c = by_offsets

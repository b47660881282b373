use Rattle.btr_tree.proofs.Falling.{never_fall}
use Rattle.btr_tree.proofs.laws.nodes_never_fall.Goals as goal

pub returns : goal.returns
returns c = never_fall

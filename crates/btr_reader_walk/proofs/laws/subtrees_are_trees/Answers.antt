use Rattle.btr_reader_walk.proofs.Subtrees.{subtrees_are_trees as they_are}
use Rattle.btr_reader_walk.proofs.laws.subtrees_are_trees.Goals as goal

pub returns : goal.returns
returns c = they_are

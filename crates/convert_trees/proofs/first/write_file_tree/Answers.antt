use Rattle.convert_trees.proofs.Adding.{adds_of}
use Rattle.convert_trees.proofs.first.write_file_tree.Goals as goal

pub returns-clause-tree : goal.returns-clause-tree
returns-clause-tree g c = λ tells other is fits apart all are writable. adds_of _ _ _ _ _ _ (c.write.ensures.tree tells other is fits apart all are writable)

use Rattle.convert_trees_laws.proofs.Fitting.{trees_counted}
use Rattle.convert_trees_laws.proofs.space.trees_are_counted.Goals as goal

pub returns : goal.returns
returns c = trees_counted c.file_tree_is_counted.ensures

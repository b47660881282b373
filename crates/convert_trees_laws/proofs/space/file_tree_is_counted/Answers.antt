use Rattle.convert_trees_laws.proofs.FilesCounted.{file_tree_is_counted}
use Rattle.convert_trees_laws.proofs.space.file_tree_is_counted.Goals as goal

pub returns : goal.returns
returns c = file_tree_is_counted

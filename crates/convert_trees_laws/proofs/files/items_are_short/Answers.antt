use Rattle.convert_trees_laws.proofs.ShortTrees.{items_are_short}
use Rattle.convert_trees_laws.proofs.files.items_are_short.Goals as goal

pub returns : goal.returns
returns c = items_are_short

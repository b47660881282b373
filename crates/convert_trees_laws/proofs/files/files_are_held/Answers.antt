use Rattle.convert_trees_laws.proofs.Holding.{files_are_held}
use Rattle.convert_trees_laws.proofs.files.files_are_held.Goals as goal

pub returns : goal.returns
returns c = files_are_held

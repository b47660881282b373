use Rattle.convert_trees_laws.proofs.Inodes.{inodes_are_there}
use Rattle.convert_trees_laws.proofs.files.inodes_are_there.Goals as goal

pub returns : goal.returns
returns c = inodes_are_there

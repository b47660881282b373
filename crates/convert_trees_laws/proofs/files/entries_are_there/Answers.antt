use Rattle.convert_trees_laws.proofs.Entries.{entries_are_there}
use Rattle.convert_trees_laws.proofs.files.entries_are_there.Goals as goal

pub returns : goal.returns
returns c = entries_are_there

use Rattle.convert_trees_laws.proofs.Paths.{names_are_kept}
use Rattle.convert_trees_laws.proofs.rows.names_are_kept.Goals as goal

pub returns : goal.returns
returns c = names_are_kept c.inodes_are_there.ensures c.entries_are_there.ensures

use Rattle.convert_trees_laws.proofs.Ruling.{names_keep_rules}
use Rattle.convert_trees_laws.proofs.rows.names_keep_rules.Goals as goal

pub returns : goal.returns
returns c = names_keep_rules c.inodes_are_there.ensures c.entries_are_there.ensures

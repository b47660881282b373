use Rattle.convert_trees_laws.proofs.Rowing.{rows_are_kept}
use Rattle.convert_trees_laws.proofs.rows.rows_are_kept.Goals as goal

pub returns : goal.returns
returns c = rows_are_kept c.names_are_kept.ensures c.inodes_are_read.ensures

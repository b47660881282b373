use Rattle.convert_trees_laws.proofs.Exact.{inodes_are_read}
use Rattle.convert_trees_laws.proofs.rows.inodes_are_read.Goals as goal

pub returns : goal.returns
returns c = inodes_are_read c.inodes_are_there.ensures

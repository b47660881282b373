use Rattle.btr_reader.proofs.OneRows.{rows_are_one}
use Rattle.btr_reader.proofs.laws.btrfs_rows_are_one.Goals as goal

pub returns : goal.returns
returns c = rows_are_one

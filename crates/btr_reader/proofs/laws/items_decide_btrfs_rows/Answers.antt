use Rattle.btr_reader.proofs.SameItems.{items_decide_rows}
use Rattle.btr_reader.proofs.laws.items_decide_btrfs_rows.Goals as goal

pub returns : goal.returns
returns c = items_decide_rows

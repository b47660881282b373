use Rattle.reiser_volume.proofs.SameItems.{items_decide_rows}
use Rattle.reiser_volume.proofs.laws.items_decide_rows.Goals as goal

pub returns : goal.returns
returns c = items_decide_rows

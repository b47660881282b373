use Rattle.reiser_volume.proofs.OneRows.{rows_are_one}
use Rattle.reiser_volume.proofs.laws.rows_are_one.Goals as goal

pub returns : goal.returns
returns c = rows_are_one

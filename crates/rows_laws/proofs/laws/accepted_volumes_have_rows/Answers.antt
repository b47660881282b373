use Rattle.rows_laws.proofs.ReiserRows.{accepted_volumes_have_rows}
use Rattle.rows_laws.proofs.laws.accepted_volumes_have_rows.Goals as goal

pub returns : goal.returns
returns c = accepted_volumes_have_rows

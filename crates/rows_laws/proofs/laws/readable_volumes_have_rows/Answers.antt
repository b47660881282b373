use Rattle.rows_laws.proofs.BtrfsRows.{readable_volumes_have_rows}
use Rattle.rows_laws.proofs.laws.readable_volumes_have_rows.Goals as goal

pub returns : goal.returns
returns c = readable_volumes_have_rows

use Rattle.reiser_make_laws.proofs.Rowed.{have_rows}
use Rattle.reiser_make_laws.proofs.laws.samples_have_their_rows.Goals as goal

pub returns : goal.returns
returns c = have_rows

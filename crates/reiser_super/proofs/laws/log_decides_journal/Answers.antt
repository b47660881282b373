use Rattle.reiser_super.proofs.Footprint.{same_pending}
use Rattle.reiser_super.proofs.laws.log_decides_journal.Goals as goal

pub returns : goal.returns
returns c = same_pending

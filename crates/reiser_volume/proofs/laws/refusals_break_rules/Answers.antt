use Rattle.reiser_volume.proofs.Refusals.{not_refused}
use Rattle.reiser_volume.proofs.laws.refusals_break_rules.Goals as goal

pub returns : goal.returns
returns c = not_refused

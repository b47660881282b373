use Rattle.reiser_volume_names.proofs.Broken.{names_broken}
use Rattle.reiser_volume_names.proofs.laws.names_refusals_break_rules.Goals as goal

pub returns : goal.returns
returns c = names_broken

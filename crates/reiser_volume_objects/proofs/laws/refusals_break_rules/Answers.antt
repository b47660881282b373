use Rattle.reiser_volume_objects.proofs.Broken.{broken}
use Rattle.reiser_volume_objects.proofs.laws.refusals_break_rules.Goals as goal

pub returns : goal.returns
returns c = broken

use Rattle.unit_plan.proofs.Sound.{plans_sound}
use Rattle.unit_plan.proofs.laws.plans_are_sound.Goals as goal

pub returns : goal.returns
returns c = plans_sound

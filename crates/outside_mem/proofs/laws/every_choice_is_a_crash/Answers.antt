use Rattle.outside_mem.proofs.Choices.{choice_may}
use Rattle.outside_mem.proofs.laws.every_choice_is_a_crash.Goals as goal

pub returns : goal.returns
returns c = choice_may

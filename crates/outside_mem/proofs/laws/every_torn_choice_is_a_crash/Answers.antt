use Rattle.outside_mem.proofs.TornChoices.{torn_choice_may}
use Rattle.outside_mem.proofs.laws.every_torn_choice_is_a_crash.Goals as goal

pub returns : goal.returns
returns c = λ h choice whole. torn_choice_may h whole choice

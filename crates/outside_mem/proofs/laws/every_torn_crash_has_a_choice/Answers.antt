use Rattle.outside_mem.proofs.TornChoices.{torn_choice_of, torn_choice_small, torn_choice_gives}
use Rattle.outside_mem.proofs.laws.every_torn_crash_has_a_choice.Goals as goal

pub returns : goal.returns
returns c = λ h image whole few may. (torn_choice_of h whole image may, torn_choice_small h whole image may few, torn_choice_gives h whole image may)

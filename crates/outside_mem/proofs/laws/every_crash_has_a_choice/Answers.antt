use Rattle.outside_mem.proofs.Choices.{choice_of, choice_small, choice_gives}
use Rattle.outside_mem.proofs.laws.every_crash_has_a_choice.Goals as goal

pub returns : goal.returns
returns c = λ h image few may. (choice_of h image may, choice_small h image may few, choice_gives h image may)

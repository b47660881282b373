use Rattle.outside_mem.proofs.Choices.{length-crash_image, chosen_waiting, chosen_other}
use Rattle.outside_mem.proofs.laws.choice_decides_each_block.Goals as goal

pub returns : goal.returns
returns c = λ h choice. (length-crash_image h choice, chosen_waiting h choice, chosen_other h choice)

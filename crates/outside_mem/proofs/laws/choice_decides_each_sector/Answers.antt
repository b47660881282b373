use Rattle.outside_mem.proofs.TornChoices.{length-torn_image, torn_waiting, torn_other}
use Rattle.outside_mem.proofs.laws.choice_decides_each_sector.Goals as goal

pub returns : goal.returns
returns c = λ h choice whole. (length-torn_image h whole choice, torn_waiting h whole choice, torn_other h whole choice)

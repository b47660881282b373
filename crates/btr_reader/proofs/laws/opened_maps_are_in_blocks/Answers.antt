use Rattle.btr_reader.proofs.MapBlocks.{opened_in_blocks}
use Rattle.btr_reader.proofs.laws.opened_maps_are_in_blocks.Goals as goal

pub returns : goal.returns
returns c = λ image s ranges opened. opened_in_blocks image s ranges opened

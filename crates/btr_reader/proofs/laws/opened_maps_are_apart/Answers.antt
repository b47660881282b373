use Rattle.btr_reader.proofs.MapApart.{opened_apart}
use Rattle.btr_reader.proofs.laws.opened_maps_are_apart.Goals as goal

pub returns : goal.returns
returns c = λ image s ranges opened. opened_apart image s ranges opened

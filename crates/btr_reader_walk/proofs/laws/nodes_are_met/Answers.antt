use Rattle.btr_reader_walk.proofs.Decides.{nodes_are_met as they_are}
use Rattle.btr_reader_walk.proofs.laws.nodes_are_met.Goals as goal

pub returns : goal.returns
returns c = they_are

use Rattle.btr_reader_walk.proofs.Decides.{nodes_decide as they_decide}
use Rattle.btr_reader_walk.proofs.laws.nodes_decide.Goals as goal

pub returns : goal.returns
returns c = they_decide

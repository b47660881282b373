use Rattle.btr_node.proofs.Ascending.{joins}
use Rattle.btr_node.proofs.laws.joined_ascend.Goals as goal

pub returns : goal.returns
returns c = joins

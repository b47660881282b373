use Rattle.btr_node.proofs.Ascending.{first_ascends, second_ascends}
use Rattle.btr_node.proofs.laws.parts_ascend.Goals as goal

pub returns : goal.returns
returns c = λ first second h. (first_ascends first second h, second_ascends first second h)

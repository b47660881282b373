use Rattle.btr_check_walk.proofs.Visiting.{node_told}
use Rattle.btr_check_walk.proofs.open_node.open_node.Goals as goal

pub returns-in-Err-clause-opens : goal.returns-in-Err-clause-opens
returns-in-Err-clause-opens g c = λ tells image is.
    rw c.tree_answer.ensures
    (node_told image c.args.ranges.now c.args.entry.now c.args.walker.now c.open.new.self c.in-Err.answer (c.in-Err.ensures.opens tells image is))

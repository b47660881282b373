use Rattle.btr_check_sums.proofs.Imports.{wrong}
use Rattle.btr_check_sums.proofs.Data.{blames_told}
use Rattle.btr_check_sums.proofs.tree_data.go_on.Goals as goal

pub returns-in-Err-clause-comes : goal.returns-in-Err-clause-comes
returns-in-Err-clause-comes g c = λ tells image is given walks.
    rw c.tree_answer.ensures (blames_told (wrong image c.args.ranges.now c.args.walker.now.tree) c.in-Err.answer (c.in-Err.ensures.comes tells image is given walks))

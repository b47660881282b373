use Rattle.btr_check_sums.proofs.Covering.{bare_wrong, sums_by}
use Rattle.btr_check_sums.proofs.cover.wrong_sum.Goals as goal

pub returns-in-Some : goal.returns-in-Some
returns-in-Some c = bare_wrong c.args.used.now c.args.covered.now c.in-Some.n c.in-Some.ensures.0

pub returns-in-None : goal.returns-in-None
returns-in-None c = sums_by c.args.used.now c.args.covered.now c.first_outside.result c.in-None.ensures c.first_outside.ensures

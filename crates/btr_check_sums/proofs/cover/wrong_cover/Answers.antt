use Rattle.btr_check_sums.proofs.Covering.{cover_by, wanted_wrong}
use Rattle.btr_check_sums.proofs.cover.wrong_cover.Goals as goal

pub returns-in-Some : goal.returns-in-Some
returns-in-Some c = wanted_wrong c.args.used.now c.args.covered.now c.in-Some.n c.in-Some.ensures.0

pub returns-in-None : goal.returns-in-None
returns-in-None c = cover_by c.args.used.now c.args.covered.now c.wrong_sum.result c.in-None.ensures c.wrong_sum.ensures

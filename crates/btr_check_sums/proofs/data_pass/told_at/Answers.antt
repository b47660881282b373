use Rattle.btr_check_sums.proofs.Imports.{arith, length, ap, ◌∙◌}
use Rattle.btr_check_sums.proofs.Bodies.{part_is, sum_length, sum_within}
use Rattle.btr_check_sums.proofs.data_pass.told_at.Goals as goal

pub overflow_mul-at : goal.overflow_mul-at
overflow_mul-at c = rw c.kind_width-width.ensures (omega (arith, sum_within c.args.kind _ c.args.k c.requires))

pub returns-clause-sum : goal.returns-clause-sum
returns-clause-sum c = part_is c.args.kind c.args.body.now c.args.k c.kind_width-width.result c.kind_width-width.ensures

pub returns-clause-long : goal.returns-clause-long
returns-clause-long c = ap (λ l. length l) (part_is c.args.kind c.args.body.now c.args.k c.kind_width-width.result c.kind_width-width.ensures) ∙ sum_length c.args.kind c.args.body.now c.args.k c.requires

use Rattle.unit_plan.proofs.Imports.{◌≡◌, ◌+◌, ◌-◌, ◌++◌, ◌∷◌, [], sym, ◌∙◌, ap, arith, range_with_len}
use Rattle.unit_plan.proofs.Lists.{range_more}
use Rattle.unit_plan.proofs.choice.consecutive.Goals as goal

pub loop-u-preserved : goal.loop-u-preserved
loop-u-preserved c =
    let count : c.loop-u.u + 1 - c.args.run.first ≡ c.loop-u.u - c.args.run.first + 1 = omega arith in
    let at : c.args.run.first + (c.loop-u.u - c.args.run.first) ≡ c.loop-u.u = omega arith in
    c.in_ok-add.ensures.ok
    ∙ (ap (λ us. us ++ c.loop-u.u ∷ []) c.loop-u.invariant
    ∙ sym (ap (range_with_len c.args.run.first) count ∙ range_more c.args.run.first (c.loop-u.u - c.args.run.first) c.loop-u.u at))

use Rattle.unit_plan.proofs.Imports.{◌≡◌, ℕ, ◌+◌, ◌<◌, true, length, refl, ◌∙◌, ap, arith, length-set, has}
use Rattle.unit_plan.proofs.Sets.{marks_run, run_none}
use Rattle.unit_plan.proofs.roles.mark_run.Goals as goal

pub loop-u-init : goal.loop-u-init
loop-u-init c = record { size = refl; marked = λ v. run_none (has c.args.set.now v) c.args.run.first v }

pub loop-u-preserved : goal.loop-u-preserved
loop-u-preserved c = record {
  size = ap length c.insert.ensures ∙ (length-set c.loop-u.set c.loop-u.u true ∙ c.loop-u.invariant.size);
  marked = λ v. ap (λ s. has s v) c.insert.ensures
      ∙ marks_run c.args.set.now c.loop-u.set c.args.run.first c.loop-u.u v (omega (arith, c.loop-u.auto.u)) (omega (arith, c.loop-u-test.true, c.requires.inside, c.loop-u.invariant.size)) (c.loop-u.invariant.marked v);
}

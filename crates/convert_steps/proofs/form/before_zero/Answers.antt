use Rattle.convert_steps.proofs.Imports.{arith, refl}
use Rattle.convert_steps.proofs.Labels.{goes_on, stops, ends}
use Rattle.convert_steps.proofs.form.before_zero.Goals as goal
use Rattle.convert_steps.proofs.form.before_zero.Goals.{then-loop-end-test+else-label-end-ne0, else-loop-end-test}

pub loop-end-init : goal.loop-end-init
loop-end-init c = record { inside = omega arith; goes = refl }

pub loop-end-preserved : goal.loop-end-preserved
loop-end-preserved c = record {
  inside = omega (arith, c.loop-end-test.true);
  goes = goes_on c.loop-end.end 0 c.args.label.now (omega (arith, c.loop-end-test.true, c.told-label)) c.loop-end.invariant.goes c.if-label-end-ne0.true;
}

pub returns : goal.returns
returns c = elim c.loop-end-test.branch [
  | then-loop-end-test+else-label-end-ne0 w ↦ stops c.loop-end.end 0 c.args.label.now (omega (arith, w.loop-end-test.true, c.told-label)) c.loop-end.invariant.goes w.if-label-end-ne0.false
  | else-loop-end-test w ↦ ends c.loop-end.end c.args.label.now (omega (arith, w.loop-end-test.false, c.told-label)) c.loop-end.invariant.goes
]

use Rattle.unit_plan.proofs.Imports.{◌≡◌, ℕ, ◌+◌, ◌<◌, length, get_or, ◌∙◌, ap, subst, arith, get_or_from_slice_get, Run}
use Rattle.unit_plan.proofs.Sets.{marks_runs}
use Rattle.unit_plan.proofs.roles.mark_runs.Goals as goal

pub loop-i-preserved : goal.loop-i-preserved
loop-i-preserved c =
    let r : Run = c.get.result in
    let inside : c.loop-i.i < length c.args.runs.now = omega (arith, c.loop-i-test.true, c.len-i-end.ensures) in
    record {
      size = c.mark_run.ensures.size ∙ c.loop-i.invariant.size;
      marked = λ u. marks_runs c.args.set.now c.loop-i.set c.mark_run.new.set c.args.runs.now c.loop-i.i u r inside (get_or_from_slice_get c.args.runs.now c.loop-i.i r r c.get.ensures) (c.loop-i.invariant.marked u) (c.mark_run.ensures.units u);
    }

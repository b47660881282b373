use Rattle.convert_steps.proofs.Imports.{◌-◌, ◌≤◌}
use Rattle.convert_steps.proofs.Labels.{Goes}
use Rattle.convert_steps.proofs.form.before_zero.Given as goal

abbrev pub invariant-loop-end : goal.invariant-loop-end
invariant-loop-end l = record {
  inside : l.end ≤ 16;
  goes : Goes l.end l.label;
}

abbrev pub decreases-loop-end : goal.decreases-loop-end
decreases-loop-end l = 16 - l.end

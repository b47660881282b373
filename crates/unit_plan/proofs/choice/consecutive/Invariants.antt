use Rattle.unit_plan.proofs.Imports.{◌≡◌, ◌-◌, range_with_len}
use Rattle.unit_plan.proofs.choice.consecutive.Given as goal

abbrev pub invariant-loop-u : goal.invariant-loop-u
invariant-loop-u l = l.units ≡ range_with_len l.fn.run.first (l.u - l.fn.run.first)

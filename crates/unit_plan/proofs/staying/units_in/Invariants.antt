use Rattle.unit_plan.proofs.Imports.{◌≡◌, take, units_in}
use Rattle.unit_plan.proofs.staying.units_in.Given as goal

abbrev pub invariant-loop-i : goal.invariant-loop-i
invariant-loop-i l = l.units ≡ units_in (take l.i l.runs)

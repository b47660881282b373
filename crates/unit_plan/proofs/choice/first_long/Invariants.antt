use Rattle.unit_plan.proofs.Imports.{◌≡◌, [], take, filter, is_long}
use Rattle.unit_plan.proofs.choice.first_long.Given as goal

abbrev pub invariant-loop-i : goal.invariant-loop-i
invariant-loop-i l = filter (is_long l.count) (take l.i l.runs) ≡ []

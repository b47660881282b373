use Rattle.unit_plan.proofs.Imports.{◌≡◌, take, max, fold}
use Rattle.unit_plan.proofs.choice.longest.Given as goal

abbrev pub invariant-loop-i : goal.invariant-loop-i
invariant-loop-i l = l.most ≡ fold (λ most run. max most run.count) 0 (take l.i l.runs)

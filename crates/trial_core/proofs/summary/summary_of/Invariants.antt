use Rattle.trial_core.proofs.Imports.{◌≡◌, ◌-◌, ◌^◌, map, take, min, sum, counted}
use Rattle.trial_core.proofs.summary.summary_of.Given as goal

abbrev pub invariant-loop-i : goal.invariant-loop-i
invariant-loop-i l = l.bytes ≡ min (sum (map counted (take l.i l.fn.rows))) (2 ^ 64 - 1)

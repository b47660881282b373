use Rattle.btr_check_extents.proofs.Imports.{◌≡◌, ◌≤◌, ◌*◌, ◌^◌, take, sum_by, MadeCount}
use Rattle.btr_check_extents.proofs.lookup.sum_of.Given as goal

abbrev pub invariant-loop-entry : goal.invariant-loop-entry
invariant-loop-entry l = (l.sum ≡ sum_by (λ (e : MadeCount). e.count) (take l.entry-index l.counts)) × (l.sum ≤ l.entry-index * 2 ^ 64)

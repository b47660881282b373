use Rattle.unit_plan.proofs.Imports.{◌≡◌, ◌+◌, ◌*◌, ◌++◌, map, range_with_len}
use Rattle.unit_plan.proofs.places.add_unit.Given as goal

abbrev pub invariant-loop-k : goal.invariant-loop-k
invariant-loop-k l = l.slots ≡ l.initial.slots ++ map (λ k. l.first + l.size * k) (range_with_len 0 l.k)

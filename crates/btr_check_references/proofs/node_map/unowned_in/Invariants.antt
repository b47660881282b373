use Rattle.btr_check_references.proofs.Imports.{◌≡◌, ◌<◌, ◌+◌, ℕ, false, get_or, Unmet, is_unowned}
use Rattle.btr_check_references.proofs.node_map.unowned_in.Given as goal

abbrev pub invariant-loop-i : goal.invariant-loop-i
invariant-loop-i l = (j : ℕ) → j < l.i → is_unowned (get_or l.states (l.range.slot + j) Unmet) ≡ false

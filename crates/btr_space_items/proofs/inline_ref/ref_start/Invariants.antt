use Rattle.btr_space_items.proofs.Imports.{◌≡◌, ◌≤◌, ℕ, List, length, drop, Some, starts, behind_inline}
use Rattle.btr_space_items.proofs.inline_ref.ref_start.Given as goal

abbrev pub invariant-loop : goal.invariant-loop
invariant-loop l = (all : List (List ℕ)) → starts behind_inline l.body ≡ Some all → l.counter ≤ length all → starts behind_inline l.rest ≡ Some (drop l.counter all)

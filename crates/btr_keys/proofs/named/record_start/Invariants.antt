use Rattle.btr_keys.proofs.Imports.{◌≡◌, ◌≤◌, ℕ, List, length, drop, Some, behind_named, starts}
use Rattle.btr_keys.proofs.named.record_start.Given as goal

abbrev pub invariant-loop : goal.invariant-loop
invariant-loop g l =
    let behind = behind_named g.row.HEAD g.row.AT in
    (all : List (List ℕ)) → starts behind l.body ≡ Some all → l.counter ≤ length all → starts behind l.rest ≡ Some (drop l.counter all)

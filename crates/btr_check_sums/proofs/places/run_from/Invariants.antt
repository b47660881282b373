use Rattle.btr_check_sums.proofs.Imports.{◌≡◌, ◌≤◌, ◌<◌, ℕ, drop, place}
use Rattle.btr_check_sums.proofs.places.run_from.Given as goal

abbrev pub invariant-loop-range : goal.invariant-loop-range
invariant-loop-range l = record {
  above : l.address < l.end;
  skipped : (a : ℕ) → l.address ≤ a → a < l.end → place l.ranges a ≡ place (drop l.range-index l.ranges) a;
}

use Rattle.extent_pieces.proofs.Imports.{◌≡◌, ◌-◌, ◌≤◌, ◌<◌, ℕ, true, not, length, has, is_data}
use Rattle.extent_pieces.proofs.divide.next_data.Given as goal

abbrev pub invariant-loop-b : goal.invariant-loop-b
invariant-loop-b l = record {
  low : l.from ≤ l.b;
  inside : l.b ≤ length l.map;
  used : l.b < length l.map → has l.map l.b ≡ true;
  none : (k : ℕ) → l.from ≤ k → k < l.b → not (is_data l.map k) ≡ true;
}

abbrev pub decreases-loop-b : goal.decreases-loop-b
decreases-loop-b l = length l.map - l.b

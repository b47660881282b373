use Rattle.extent_pieces.proofs.Imports.{◌≡◌, ◌-◌, ◌≤◌, ◌<◌, true, length, is_data}
use Rattle.extent_pieces.proofs.divide.count_kept.Given as goal

abbrev pub invariant-loop-b : goal.invariant-loop-b
invariant-loop-b l = record {
  few : l.count ≤ l.b;
  inside : l.b ≤ length l.map;
  data_ : l.b < length l.map → is_data l.map l.b ≡ true;
}

abbrev pub decreases-loop-b : goal.decreases-loop-b
decreases-loop-b l = length l.map - l.b

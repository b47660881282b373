use Rattle.extent_pieces.proofs.Imports.{◌≡◌, ◌-◌, ◌≤◌, ◌<◌, true, length, is_data, TellOwners, Owners}
use Rattle.extent_pieces.proofs.Dividing.{Divides}
use Rattle.extent_pieces.proofs.divide.add_kept.Given as goal

abbrev pub invariant-loop-b : goal.invariant-loop-b
invariant-loop-b l = record {
  inside : l.b ≤ length l.map;
  data_ : l.b < length l.map → is_data l.map l.b ≡ true;
  divided : (owner : Owners) → TellOwners l.owned owner → Divides l.map owner l.fn.items.items l.items.items l.b;
}

abbrev pub decreases-loop-b : goal.decreases-loop-b
decreases-loop-b l = length l.map - l.b

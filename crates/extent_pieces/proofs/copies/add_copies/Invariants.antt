use Rattle.extent_pieces.proofs.Imports.{◌≡◌, ◌-◌, ◌≤◌, ◌<◌, true, length, is_reserved, TellOwners, Owners}
use Rattle.extent_pieces.proofs.Copying.{Copies}
use Rattle.extent_pieces.proofs.copies.add_copies.Given as goal

abbrev pub invariant-loop-b : goal.invariant-loop-b
invariant-loop-b l = record {
  inside : l.b ≤ length l.map;
  reserved : l.b < length l.map → is_reserved l.b (length l.map) ≡ true;
  copied : (owner : Owners) → TellOwners l.owned owner → Copies l.map owner l.fn.items.items l.items.items l.b;
  grows : length l.fn.items.items ≤ length l.items.items;
}

abbrev pub decreases-loop-b : goal.decreases-loop-b
decreases-loop-b l = length l.map - l.b

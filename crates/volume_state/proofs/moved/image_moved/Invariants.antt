use Rattle.volume_state.proofs.Imports.{◌-◌, ◌≡◌, ◌≤◌, ◌<◌, ℕ, Some, true, length, map_place, IsOld, has}
use Rattle.volume_state.proofs.moved.image_moved.Given as goal

abbrev pub invariant-loop-block : goal.invariant-loop-block
invariant-loop-block l = record {
  inside : l.block ≤ l.end;
  all : l.end ≡ length l.image;
  placed : (b : ℕ) → IsOld l.image b → b < l.block → map_place l.map b ≡ Some b;
  used : l.block < l.end → has l.image l.block ≡ true;
}

abbrev pub decreases-loop-block : goal.decreases-loop-block
decreases-loop-block l = l.end - l.block

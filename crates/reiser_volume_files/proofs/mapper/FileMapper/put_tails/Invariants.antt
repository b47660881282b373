use Rattle.reiser_volume_files.proofs.Imports.{◌≡◌, ◌≤◌, ◌+◌, ◌*◌, ℕ, Option, joined_at, RunFrom, OverlaysTail, HoldsRuns}
use Rattle.reiser_volume_files.proofs.mapper.FileMapper.put_tails.Given as goal

abbrev pub invariant-loop-k : goal.invariant-loop-k
invariant-loop-k l = record {
  size : l.self.size ≡ l.fn.self.size;
  next : 4096 * l.fn.self.next ≤ l.at → l.self.next ≤ l.k;
  reached : 4096 * l.fn.self.next ≤ l.at → 4096 * l.self.next ≤ l.at + l.count;
  -- the blocks before block k have gone over
  runs : (f g : ℕ → Option RunFrom) → OverlaysTail l.at l.count f g → 4096 * l.fn.self.next ≤ l.at → HoldsRuns l.fn.self f → HoldsRuns l.self (joined_at l.k g f);
}

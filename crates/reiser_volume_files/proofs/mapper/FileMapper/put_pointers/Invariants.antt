use Rattle.reiser_volume_files.proofs.Imports.{◌≡◌, ◌≤◌, ◌+◌, ◌/◌, ℕ, Option, length, joined_at, RunFrom, OverlaysDisks, HoldsRuns}
use Rattle.reiser_volume_files.proofs.mapper.FileMapper.put_pointers.Given as goal

abbrev pub invariant-loop-j : goal.invariant-loop-j
invariant-loop-j l = record {
  size : l.self.size ≡ l.fn.self.size;
  next : l.fn.self.next ≤ l.first → l.self.next ≤ l.first + l.j;
  none : length l.body / 4 ≡ 0 → l.self ≡ l.fn.self;
  -- the blocks of the pointers before pointer j have gone over
  runs : (f g : ℕ → Option RunFrom) → OverlaysDisks l.fn.self.size l.first l.body f g → l.fn.self.next ≤ l.first → HoldsRuns l.fn.self f → HoldsRuns l.self (joined_at (l.first + l.j) g f);
}

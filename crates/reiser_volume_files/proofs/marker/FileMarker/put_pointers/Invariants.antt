use Rattle.reiser_volume_files.proofs.Imports.{◌≡◌, ◌≤◌, ◌+◌, ◌*◌, ◌/◌, ℕ, length, IsTrue, Image, HoldsBytes, joined_at, OverlaysNamed}
use Rattle.reiser_volume_files.proofs.marker.FileMarker.put_pointers.Given as goal

abbrev pub invariant-loop-j : goal.invariant-loop-j
invariant-loop-j g l = record {
  kept : g.S.BlockSource.kept l.fn.src l.src;
  same : g.S.BlockSource.faults l.src ≡ g.S.BlockSource.faults l.fn.src;
  size : l.self.file.size ≡ l.fn.self.file.size;
  next : l.fn.self.file.next ≤ l.first → l.self.file.next ≤ l.first + l.j;
  none : length l.body / 4 ≡ 0 → l.self ≡ l.fn.self;
  -- the blocks of the pointers before pointer j have gone over
  bytes : IsTrue g.S.BlockSource.tells → (image : Image) → g.S.BlockSource.blocks l.fn.src ≡ image → (f g' : ℕ → ℕ) → OverlaysNamed image l.fn.self.file.size l.first l.body f g'
      → l.fn.self.file.next ≤ l.first → HoldsBytes l.fn.self.file f → HoldsBytes l.self.file (joined_at (4096 * (l.first + l.j)) g' f);
}

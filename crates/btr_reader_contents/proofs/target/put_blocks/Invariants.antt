use Rattle.btr_reader_contents.proofs.Imports.{◌≡◌, ◌≤◌, ◌+◌, ◌-◌, ◌*◌, ◌/◌, ℕ, min, true, false, IsTrue, Image, Regular, HoldsBytes, joined_at, AreInBlocks, content_byte, is_hole, range_is_aligned, Appends}
use Rattle.btr_reader_contents.proofs.target.put_blocks.Given as goal

abbrev pub invariant-loop-j : goal.invariant-loop-j
invariant-loop-j g l = record {
  kept : g.S.BlockSource.kept l.fn.src l.src;
  same : g.S.BlockSource.faults l.src ≡ g.S.BlockSource.faults l.fn.src;
  size : l.file.size ≡ l.fn.file.size;
  next : 4096 * l.fn.file.next ≤ l.offset → l.file.next ≤ l.offset / 4096 + l.j;
  near : 4096 * l.fn.file.next ≤ l.offset → 4096 * l.file.next ≤ l.offset + 4096 * l.j;
  -- the blocks before block j of the range have gone over
  bytes : IsTrue g.S.BlockSource.tells → (image : Image) → g.S.BlockSource.blocks l.fn.src ≡ image → AreInBlocks l.ranges → is_hole l.range ≡ false → range_is_aligned l.offset l.range ≡ true
      → (f g' : ℕ → ℕ) → Appends l.offset (min l.range.num_bytes (l.fn.file.size - l.offset)) (content_byte image l.ranges (Regular l.range)) f g'
      → 4096 * l.fn.file.next ≤ l.offset → HoldsBytes l.fn.file f → HoldsBytes l.file (joined_at (4096 * (l.offset / 4096 + l.j)) g' f);
}

use Rattle.fs_rows.proofs.Imports.{◌≡◌, ◌≤◌, ◌+◌, ◌*◌, ℕ, length, Overlays, HoldsBytes}
use Rattle.fs_rows.proofs.Joined.{joined_at}
use Rattle.fs_rows.proofs.file.FileBytes.put_piece.Given as goal

abbrev pub invariant-loop-k : goal.invariant-loop-k
invariant-loop-k l = record {
  size : l.self.size ≡ l.fn.self.size;
  next : 4096 * l.fn.self.next ≤ l.at → l.self.next ≤ l.k;
  near : 4096 * l.fn.self.next ≤ l.at → 4096 * l.self.next ≤ l.at + length l.bytes;
  -- the bytes before block k have gone over
  bytes : (f g : ℕ → ℕ) → Overlays l.at l.bytes f g → 4096 * l.fn.self.next ≤ l.at → HoldsBytes l.fn.self f → HoldsBytes l.self (joined_at (4096 * l.k) g f);
}

use Rattle.reiser_bitmap.proofs.Imports.{◌≡◌, ◌≤◌, ◌<◌, ℕ, true, length, has, bitmap_block}
use Rattle.reiser_bitmap.proofs.bitmap.Bitmap.system_used.Given as goal

abbrev pub invariant-loop-k : goal.invariant-loop-k
invariant-loop-k l = (k : ℕ) → k < l.k → bitmap_block k < length l.self → has l.self (bitmap_block k) ≡ true

abbrev pub invariant-loop-block : goal.invariant-loop-block
invariant-loop-block l = (b : ℕ) → l.journal_first ≤ b → b < l.block → has l.self b ≡ true

use Rattle.reiser_bitmap.proofs.Imports.{◌≡◌, ◌-◌, ◌<◌, ◌≤◌, ℕ, true, is_bit}
use Rattle.reiser_bitmap.proofs.next.end_of_bits.Given as goal

abbrev pub invariant-loop-b : goal.invariant-loop-b
invariant-loop-b l = record {
  low : l.from ≤ l.b;
  high : l.b ≤ l.end;
  all : (k : ℕ) → l.from ≤ k → k < l.b → is_bit l.bytes l.bit k ≡ true;
}

abbrev pub decreases-loop-b : goal.decreases-loop-b
decreases-loop-b l = l.end - l.b

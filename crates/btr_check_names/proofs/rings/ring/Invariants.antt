use Rattle.btr_check_names.proofs.Imports.{◌≡◌, ◌≢◌, ◌<◌, ℕ, length, slice_index, AreEnded}
use Rattle.btr_check_names.proofs.rings.ring.Given as goal

abbrev pub invariant-loop-start : goal.invariant-loop-start
invariant-loop-start l = record {
  long : length l.met.items ≡ length l.above;
  ended : AreEnded l.above l.met.items l.start;
  all : (k : ℕ) → k < l.start → slice_index l.met.items k ≢ 0;
}

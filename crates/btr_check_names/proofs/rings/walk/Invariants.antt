use Rattle.btr_check_names.proofs.Imports.{◌≡◌, ◌≢◌, ℕ, ◌==◌, length, slice_index, AreOnWay, IsBegun, IsPlace}
use Rattle.std.proofs.Common.{count_by}
use Rattle.btr_check_names.proofs.rings.walk.Given as goal

abbrev pub invariant-loop-at : goal.invariant-loop-at
invariant-loop-at l = record {
  place : IsPlace (length l.above) l.at;
  on : AreOnWay l.above l.met l.start l.at;
  begun : IsBegun l.met l.start l.at;
  kept : (i : ℕ) → slice_index l.initial.met i ≢ 0 → slice_index l.met i ≢ 0;
}

abbrev pub decreases-loop-at : goal.decreases-loop-at
decreases-loop-at l = count_by (λ m. m == 0) l.met

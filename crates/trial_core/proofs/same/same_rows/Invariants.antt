use Rattle.trial_core.proofs.Imports.{◌≡◌, length, take}
use Rattle.trial_core.proofs.same.same_rows.Given as goal

abbrev pub invariant-loop-i : goal.invariant-loop-i
invariant-loop-i l = record {
  lengths : length l.fn.others ≡ length l.fn.rows;
  same : take l.i l.fn.others ≡ take l.i l.fn.rows;
}

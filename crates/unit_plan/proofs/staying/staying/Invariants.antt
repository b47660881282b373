use Rattle.unit_plan.proofs.Imports.{◌≡◌, ℕ, ◌+◌, ◌<◌, take, slice_index, filter, is_longer, is_as_long, stays}
use Rattle.unit_plan.proofs.RunSums.{part}
use Rattle.unit_plan.proofs.staying.staying.Given as goal

abbrev pub invariant-loop-i : goal.invariant-loop-i
invariant-loop-i l = record {
  kept_is : l.kept ≡ filter (stays l.runs) (take l.i l.runs);
  counted : (c : ℕ) → c < 256 → slice_index l.ahead c ≡ part (is_longer c) l.runs + part (is_as_long c) (take l.i l.runs);
}

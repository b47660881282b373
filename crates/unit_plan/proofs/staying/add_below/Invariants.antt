use Rattle.unit_plan.proofs.Imports.{◌≡◌, ℕ, ◌+◌, ◌<◌, ltb, length, cond, slice_index}
use Rattle.unit_plan.proofs.staying.add_below.Given as goal

abbrev pub invariant-loop-c : goal.invariant-loop-c
invariant-loop-c l = record {
  size : length l.longer ≡ 256;
  added : (k : ℕ) → k < 256 → slice_index l.longer k ≡ slice_index l.initial.longer k + cond (ltb k l.c) l.count 0;
}

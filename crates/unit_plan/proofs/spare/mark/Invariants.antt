use Rattle.unit_plan.proofs.Imports.{◌≡◌, ℕ, ◌||◌, length, take, has, is_among}
use Rattle.unit_plan.proofs.spare.mark.Given as goal

abbrev pub invariant-loop-i : goal.invariant-loop-i
invariant-loop-i l = record {
  size : length l.set ≡ length l.initial.set;
  marked : (u : ℕ) → has l.set u ≡ (has l.initial.set u || is_among (take l.i l.units) u);
}

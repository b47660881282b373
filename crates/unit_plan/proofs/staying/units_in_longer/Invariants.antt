use Rattle.unit_plan.proofs.Imports.{◌≡◌, ℕ, ◌<◌, take, slice_index, is_longer}
use Rattle.unit_plan.proofs.RunSums.{part}
use Rattle.unit_plan.proofs.staying.units_in_longer.Given as goal

abbrev pub invariant-loop-i : goal.invariant-loop-i
invariant-loop-i l = (c : ℕ) → c < 256 → slice_index l.longer c ≡ part (is_longer c) (take l.i l.runs)

use Rattle.unit_plan.proofs.Imports.{◌≡◌, ◌-◌, false, list_any, range_with_len, is_data}
use Rattle.unit_plan.proofs.spare.holds_data.Given as goal

abbrev pub invariant-loop-block : goal.invariant-loop-block
invariant-loop-block l = list_any (is_data l.map) (range_with_len l.first (l.block - l.first)) ≡ false

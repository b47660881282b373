use Rattle.btr_check_fields.proofs.Imports.{take, sum_by, GroupAt}
use Rattle.std.specs.Prelude.{◌≡◌, ◌+◌}
use Rattle.btr_check_fields.proofs.totals.used_is.Given as goal

abbrev pub invariant-loop-g : goal.invariant-loop-g
invariant-loop-g l = l.left + sum_by (λ (g : GroupAt). g.group.used) (take l.g-index l.groups) ≡ l.total

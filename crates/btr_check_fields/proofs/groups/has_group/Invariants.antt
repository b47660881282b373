use Rattle.btr_check_fields.proofs.Imports.{drop, list_any, is_group_of}
use Rattle.std.specs.Prelude.{◌≡◌}
use Rattle.btr_check_fields.proofs.groups.has_group.Given as goal

abbrev pub invariant-loop-g : goal.invariant-loop-g
invariant-loop-g l = list_any (is_group_of l.u) (drop l.g-index l.groups) ≡ list_any (is_group_of l.u) l.groups

use Rattle.btr_check_fields.proofs.Imports.{drop, list_any, is_extent_of}
use Rattle.std.specs.Prelude.{◌≡◌}
use Rattle.btr_check_fields.proofs.extents.has_extent.Given as goal

abbrev pub invariant-loop-e : goal.invariant-loop-e
invariant-loop-e l = list_any (is_extent_of l.c l.s) (drop l.e-index l.extents) ≡ list_any (is_extent_of l.c l.s) l.extents

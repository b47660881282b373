use Rattle.btr_check_fields.proofs.Imports.{drop, list_any, is_group_of}
use Rattle.std.specs.Prelude.{◌≡◌}
use Rattle.btr_check_fields.proofs.groups.group_of.Given as goal

abbrev pub invariant-loop-u : goal.invariant-loop-u
invariant-loop-u l = list_any (λ u. is_group_of u l.g) (drop l.u-index l.chunks) ≡ list_any (λ u. is_group_of u l.g) l.chunks

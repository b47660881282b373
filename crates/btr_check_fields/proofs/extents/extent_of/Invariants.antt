use Rattle.btr_check_fields.proofs.Imports.{drop, list_any, is_of_chunk}
use Rattle.std.specs.Prelude.{◌≡◌}
use Rattle.btr_check_fields.proofs.extents.extent_of.Given as goal

abbrev pub invariant-loop-c : goal.invariant-loop-c
invariant-loop-c l = list_any (λ c. is_of_chunk c l.e) (drop l.c-index l.chunks) ≡ list_any (λ c. is_of_chunk c l.e) l.chunks

use Rattle.btr_check_fields.proofs.Imports.{take, All, has_extents}
use Rattle.std.specs.Prelude.{◌≡◌, true}
use Rattle.btr_check_fields.proofs.extents.without_extents.Given as goal

abbrev pub invariant-loop-c : goal.invariant-loop-c
invariant-loop-c l = All (λ x. has_extents l.extents x ≡ true) (take l.c-index l.chunks)

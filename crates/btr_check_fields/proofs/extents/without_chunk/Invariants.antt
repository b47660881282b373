use Rattle.btr_check_fields.proofs.Imports.{take, All, extent_of}
use Rattle.std.specs.Prelude.{◌≡◌, true}
use Rattle.btr_check_fields.proofs.extents.without_chunk.Given as goal

abbrev pub invariant-loop-e : goal.invariant-loop-e
invariant-loop-e l = All (λ x. extent_of l.chunks x ≡ true) (take l.e-index l.extents)

use Rattle.btr_check_fields.proofs.Imports.{take, All, group_of}
use Rattle.std.specs.Prelude.{◌≡◌, true}
use Rattle.btr_check_fields.proofs.groups.without_chunk.Given as goal

abbrev pub invariant-loop-g : goal.invariant-loop-g
invariant-loop-g l = All (λ x. group_of l.chunks x ≡ true) (take l.g-index l.groups)

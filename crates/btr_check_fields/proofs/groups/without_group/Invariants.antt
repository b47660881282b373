use Rattle.btr_check_fields.proofs.Imports.{take, All, has_group}
use Rattle.std.specs.Prelude.{◌≡◌, true}
use Rattle.btr_check_fields.proofs.groups.without_group.Given as goal

abbrev pub invariant-loop-u : goal.invariant-loop-u
invariant-loop-u l = All (λ x. has_group l.groups x ≡ true) (take l.u-index l.chunks)

use Rattle.btr_check_fields.proofs.Imports.{take, stripe_bytes}
use Rattle.std.specs.Prelude.{◌≡◌, ◌+◌}
use Rattle.btr_check_fields.proofs.totals.stripes_are.Given as goal

abbrev pub invariant-loop-c : goal.invariant-loop-c
invariant-loop-c l = l.left + stripe_bytes (take l.c-index l.chunks) ≡ l.total

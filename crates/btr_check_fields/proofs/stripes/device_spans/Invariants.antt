use Rattle.btr_check_fields.proofs.Imports.{take, flat_map, stripe_spans}
use Rattle.std.specs.Prelude.{◌≡◌}
use Rattle.btr_check_fields.proofs.stripes.device_spans.Given as goal

abbrev pub invariant-loop-c : goal.invariant-loop-c
invariant-loop-c l = l.spans.items ≡ flat_map stripe_spans (take l.c-index l.chunks)

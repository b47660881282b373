use Rattle.btr_check_fields.proofs.Imports.{take, chunk_span}
use Rattle.std.specs.Prelude.{◌≡◌, map}
use Rattle.btr_check_fields.proofs.stripes.chunk_spans.Given as goal

abbrev pub invariant-loop-c : goal.invariant-loop-c
invariant-loop-c l = l.spans.items ≡ map chunk_span (take l.c-index l.chunks)

use Rattle.btr_check_fields.proofs.Imports.{slice_index_or, ◌<◌, Apart, Span}
use Rattle.std.specs.Prelude.{ℕ, length}
use Rattle.btr_check_fields.proofs.overlap.overlap.Given as goal

abbrev pub invariant-loop-i : goal.invariant-loop-i
invariant-loop-i l = (p q : ℕ) (d : Span) → p < q → q < length l.spans → p < l.i → Apart (slice_index_or l.spans p d) (slice_index_or l.spans q d)

abbrev pub invariant-loop-j : goal.invariant-loop-j
invariant-loop-j l = (q : ℕ) (d : Span) → l.i < q → q < l.j → Apart (slice_index_or l.spans l.i d) (slice_index_or l.spans q d)

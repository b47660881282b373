use Rattle.btr_check_fields.proofs.Imports.{refl, sym, true, ◌≡◌, All-more, Contains-get_or, extent_of}
use Rattle.btr_check_fields.proofs.extents.without_chunk.Goals as goal

pub loop-e-preserved : goal.loop-e-preserved
loop-e-preserved c = All-more (λ x. extent_of c.args.chunks.now x ≡ true) c.args.extents.now c.loop-e.e-index _ c.loop-e-test.true c.loop-e.invariant (sym c.if-not-extent_of.ensures)

pub returns-then-not-extent_of : goal.returns-then-not-extent_of
returns-then-not-extent_of c = (_, Contains-get_or c.args.extents.now c.loop-e.e-index _ c.loop-e-test.true, refl, sym c.if-not-extent_of.ensures)

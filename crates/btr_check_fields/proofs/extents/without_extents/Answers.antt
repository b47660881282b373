use Rattle.btr_check_fields.proofs.Imports.{refl, sym, true, ◌≡◌, All-more, Contains-get_or, has_extents}
use Rattle.btr_check_fields.proofs.extents.without_extents.Goals as goal

pub loop-c-preserved : goal.loop-c-preserved
loop-c-preserved c = All-more (λ x. has_extents c.args.extents.now x ≡ true) c.args.chunks.now c.loop-c.c-index _ c.loop-c-test.true c.loop-c.invariant (sym c.if-not-has_extents.ensures)

pub returns-then-not-has_extents : goal.returns-then-not-has_extents
returns-then-not-has_extents c = (_, Contains-get_or c.args.chunks.now c.loop-c.c-index _ c.loop-c-test.true, refl, sym c.if-not-has_extents.ensures)

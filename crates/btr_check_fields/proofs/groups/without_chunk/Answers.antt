use Rattle.btr_check_fields.proofs.Imports.{refl, sym, true, ◌≡◌, All-more, Contains-get_or, group_of}
use Rattle.btr_check_fields.proofs.groups.without_chunk.Goals as goal

pub loop-g-preserved : goal.loop-g-preserved
loop-g-preserved c = All-more (λ x. group_of c.args.chunks.now x ≡ true) c.args.groups.now c.loop-g.g-index _ c.loop-g-test.true c.loop-g.invariant (sym c.if-not-group_of.ensures)

pub returns-then-not-group_of : goal.returns-then-not-group_of
returns-then-not-group_of c = (_, Contains-get_or c.args.groups.now c.loop-g.g-index _ c.loop-g-test.true, refl, sym c.if-not-group_of.ensures)

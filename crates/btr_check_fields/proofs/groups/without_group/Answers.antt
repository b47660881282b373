use Rattle.btr_check_fields.proofs.Imports.{refl, sym, true, ◌≡◌, All-more, Contains-get_or, has_group}
use Rattle.btr_check_fields.proofs.groups.without_group.Goals as goal

pub loop-u-preserved : goal.loop-u-preserved
loop-u-preserved c = All-more (λ x. has_group c.args.groups.now x ≡ true) c.args.chunks.now c.loop-u.u-index _ c.loop-u-test.true c.loop-u.invariant (sym c.if-not-has_group.ensures)

pub returns-then-not-has_group : goal.returns-then-not-has_group
returns-then-not-has_group c = (_, Contains-get_or c.args.chunks.now c.loop-u.u-index _ c.loop-u-test.true, refl, sym c.if-not-has_group.ensures)

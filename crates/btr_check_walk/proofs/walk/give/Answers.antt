use Rattle.btr_check_walk.proofs.Imports.{sym, ◌∙◌, in_leaf}
use Rattle.btr_check_walk.proofs.Steps.{given_one, refused_order}
use Rattle.btr_check_walk.proofs.walk.give.Goals as goal

pub returns-then-not-is_above-clause-given : goal.returns-then-not-is_above-clause-given
returns-then-not-is_above-clause-given g c = λ begun items stands.
    rw c.fails_at.ensures
    (refused_order (g.V.ItemVisitor.holds begun c.args.visitor.now) (g.V.ItemVisitor.refuses begun) c.args.last.now items (in_leaf c.args.leaf (c.args.key.now, c.args.body.now)) stands
    (sym c.is_above.ensures ∙ c.if-not-is_above.true))

pub returns-clause-given : goal.returns-clause-given
returns-clause-given g c = λ begun items stands.
    given_one c.visit.result (g.V.ItemVisitor.holds begun c.args.visitor.now) (g.V.ItemVisitor.holds begun c.visit.new.self) (g.V.ItemVisitor.refuses begun) c.args.last.now items
    (in_leaf c.args.leaf (c.args.key.now, c.args.body.now)) stands (sym c.is_above.ensures ∙ c.if-not-is_above.false) (c.visit.ensures.visited begun items)

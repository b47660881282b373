use Rattle.reiser_make_app.proofs.Imports.{Bool, sym, subst, WritesOnly, Ordered, seen, Uses}
use Rattle.reiser_make_app.proofs.top.make_ordered.Goals as goal

abbrev in_version : Ordered → Bool → Ordered
in_version o old = record { number = o.number; blocks = o.blocks; old = old; path = o.path }

pub returns-then-order-clause-only : goal.returns-then-order-clause-only
returns-then-order-clause-only g c = λ tells.
    subst (λ (old : Bool). WritesOnly (λ b _. Uses (in_version (seen c.args.order.now) old) b) (g.D.Disk.history c.args.disk.now) (g.D.Disk.history c.make_old.new.disk))
    (sym c.if-order.true) (c.make_old.ensures.only tells)

pub returns-else-order-clause-only : goal.returns-else-order-clause-only
returns-else-order-clause-only g c = λ tells.
    subst (λ (old : Bool). WritesOnly (λ b _. Uses (in_version (seen c.args.order.now) old) b) (g.D.Disk.history c.args.disk.now) (g.D.Disk.history c.make.new.disk))
    (sym c.if-order.false) (c.make.ensures.only tells)

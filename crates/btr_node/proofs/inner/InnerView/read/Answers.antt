use Rattle.btr_node.proofs.Imports.{refl, sym, has_inner_head, has_inner_layout, has_inner_order, inner_damages, has_sum}
use Rattle.btr_node.proofs.Breaks.{breaks_sum, breaks_head, breaks_layout, breaks_order, breaks_none, sum_decides}
use Rattle.btr_node.proofs.Inners.{inner_head_decides, inner_layout_decides}
use Rattle.btr_node.proofs.inner.InnerView.read.Goals as goal

pub returns-then-not-has_sum-clause-damages : goal.returns-then-not-has_sum-clause-damages
unfolding inner_damages
returns-then-not-has_sum-clause-damages c =
    breaks_sum _ (has_inner_head c.args.want.now c.args.bytes.now) (has_inner_layout c.args.bytes.now) (has_inner_order c.args.bytes.now) (sym c.if-not-has_sum.ensures)

pub returns-then-not-has_inner_head-clause-damages : goal.returns-then-not-has_inner_head-clause-damages
unfolding inner_damages
returns-then-not-has_inner_head-clause-damages c =
    breaks_head (has_sum c.args.want.now.sums c.args.bytes.now) _ (has_inner_layout c.args.bytes.now) (has_inner_order c.args.bytes.now)
    (sym c.if-not-has_sum.ensures) (sym c.if-not-has_inner_head.ensures)

pub returns-then-not-has_layout-clause-damages : goal.returns-then-not-has_layout-clause-damages
unfolding inner_damages
returns-then-not-has_layout-clause-damages c =
    breaks_layout (has_sum c.args.want.now.sums c.args.bytes.now) (has_inner_head c.args.want.now c.args.bytes.now) _ (has_inner_order c.args.bytes.now)
    (sym c.if-not-has_sum.ensures) (sym c.if-not-has_inner_head.ensures) (sym c.if-not-has_layout.ensures)

pub returns-then-not-has_order-clause-damages : goal.returns-then-not-has_order-clause-damages
unfolding inner_damages
returns-then-not-has_order-clause-damages c =
    breaks_order (has_sum c.args.want.now.sums c.args.bytes.now) (has_inner_head c.args.want.now c.args.bytes.now) (has_inner_layout c.args.bytes.now) _
    (sym c.if-not-has_sum.ensures) (sym c.if-not-has_inner_head.ensures) (sym c.if-not-has_layout.ensures) (sym c.if-not-has_order.ensures)

pub returns-clause-grammar : goal.returns-clause-grammar
returns-clause-grammar c =
    let head = (inner_head_decides c.args.want.now c.args.bytes.now).0 (sym c.if-not-has_inner_head.ensures) in (
      λ h. record {
        sum = (sum_decides c.args.want.now.sums c.args.bytes.now).0 (sym c.if-not-has_sum.ensures);
        level = head.0;
        some = head.1;
        head = head.2;
        layout = (inner_layout_decides c.args.bytes.now).0 (sym c.if-not-has_layout.ensures);
        order = sym c.if-not-has_order.ensures;
      },
      λ node. refl,
    )

pub returns-clause-damages : goal.returns-clause-damages
unfolding inner_damages
returns-clause-damages c =
    breaks_none (has_sum c.args.want.now.sums c.args.bytes.now) (has_inner_head c.args.want.now c.args.bytes.now) (has_inner_layout c.args.bytes.now) (has_inner_order c.args.bytes.now)
    (sym c.if-not-has_sum.ensures) (sym c.if-not-has_inner_head.ensures) (sym c.if-not-has_layout.ensures) (sym c.if-not-has_order.ensures)

use Rattle.btr_node.proofs.Imports.{refl, sym, not_from_Decides, IsBtrfsLeaf, has_leaf_head, has_leaf_layout, has_leaf_order, leaf_damages, has_sum}
use Rattle.btr_node.proofs.Breaks.{breaks_sum, breaks_head, breaks_layout, breaks_order, breaks_none, sum_decides, leaf_head_decides}
use Rattle.btr_node.proofs.Leaves.{leaf_layout_decides}
use Rattle.btr_node.proofs.leaf.LeafView.read.Goals as goal

pub returns-then-not-has_sum-clause-damages : goal.returns-then-not-has_sum-clause-damages
unfolding leaf_damages
returns-then-not-has_sum-clause-damages c =
    breaks_sum _ (has_leaf_head c.args.want.now c.args.bytes.now) (has_leaf_layout c.args.bytes.now) (has_leaf_order c.args.bytes.now) (sym c.if-not-has_sum.ensures)

pub returns-then-not-has_leaf_head-clause-damages : goal.returns-then-not-has_leaf_head-clause-damages
unfolding leaf_damages
returns-then-not-has_leaf_head-clause-damages c =
    breaks_head (has_sum c.args.want.now.sums c.args.bytes.now) _ (has_leaf_layout c.args.bytes.now) (has_leaf_order c.args.bytes.now)
    (sym c.if-not-has_sum.ensures) (sym c.if-not-has_leaf_head.ensures)

pub returns-then-not-has_layout-clause-fails : goal.returns-then-not-has_layout-clause-fails
returns-then-not-has_layout-clause-fails c = not_from_Decides _ (leaf_layout_decides c.args.bytes.now) (sym c.if-not-has_layout.ensures)

pub returns-then-not-has_layout-clause-grammar : goal.returns-then-not-has_layout-clause-grammar
returns-then-not-has_layout-clause-grammar c =
    (λ h. absurd (cc), λ (leaf : IsBtrfsLeaf c.args.want.now c.args.bytes.now). absurd (not_from_Decides _ (leaf_layout_decides c.args.bytes.now) (sym c.if-not-has_layout.ensures) leaf.layout))

pub returns-then-not-has_layout-clause-damages : goal.returns-then-not-has_layout-clause-damages
unfolding leaf_damages
returns-then-not-has_layout-clause-damages c =
    breaks_layout (has_sum c.args.want.now.sums c.args.bytes.now) (has_leaf_head c.args.want.now c.args.bytes.now) _ (has_leaf_order c.args.bytes.now)
    (sym c.if-not-has_sum.ensures) (sym c.if-not-has_leaf_head.ensures) (sym c.if-not-has_layout.ensures)

pub has_order-requires : goal.has_order-requires
has_order-requires c = (leaf_layout_decides c.args.bytes.now).0 (sym c.if-not-has_layout.ensures)

pub returns-then-not-has_order-clause-damages : goal.returns-then-not-has_order-clause-damages
unfolding leaf_damages
returns-then-not-has_order-clause-damages c =
    breaks_order (has_sum c.args.want.now.sums c.args.bytes.now) (has_leaf_head c.args.want.now c.args.bytes.now) (has_leaf_layout c.args.bytes.now) _
    (sym c.if-not-has_sum.ensures) (sym c.if-not-has_leaf_head.ensures) (sym c.if-not-has_layout.ensures) (sym c.if-not-has_order.ensures)

pub invariant_of-result : goal.invariant_of-result
invariant_of-result c = (leaf_layout_decides c.args.bytes.now).0 (sym c.if-not-has_layout.ensures)

pub returns-clause-grammar : goal.returns-clause-grammar
returns-clause-grammar c =
    let head = (leaf_head_decides c.args.want.now c.args.bytes.now).0 (sym c.if-not-has_leaf_head.ensures) in (
      λ h. record {
        sum = (sum_decides c.args.want.now.sums c.args.bytes.now).0 (sym c.if-not-has_sum.ensures);
        level = head.0;
        head = head.1;
        layout = (leaf_layout_decides c.args.bytes.now).0 (sym c.if-not-has_layout.ensures);
        order = sym c.if-not-has_order.ensures;
      },
      λ leaf. refl,
    )

pub returns-clause-damages : goal.returns-clause-damages
unfolding leaf_damages
returns-clause-damages c =
    breaks_none (has_sum c.args.want.now.sums c.args.bytes.now) (has_leaf_head c.args.want.now c.args.bytes.now) (has_leaf_layout c.args.bytes.now) (has_leaf_order c.args.bytes.now)
    (sym c.if-not-has_sum.ensures) (sym c.if-not-has_leaf_head.ensures) (sym c.if-not-has_layout.ensures) (sym c.if-not-has_order.ensures)

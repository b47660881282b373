use Rattle.btr_node.proofs.Imports.{◌≡◌, ◌↔◌, ℕ, List, [], IsBtrfsInner, has_inner_head, has_inner_layout, has_inner_order, IsBtrfsLeaf, has_leaf_head, has_leaf_layout, has_leaf_order, leaf_damages, inner_damages, has_sum, Expect}
use Rattle.btr_node.proofs.Breaks.{breaks_none, none_broken, sum_decides, leaf_head_decides}
use Rattle.btr_node.proofs.Inners.{inner_head_decides, inner_layout_decides}
use Rattle.btr_node.proofs.Leaves.{leaf_layout_decides}
use Rattle.btr_node.proofs.laws.damages_tell.Goals as goal

leaf_tells : (want : Expect) (bytes : List ℕ) → leaf_damages want bytes ≡ [] ↔ IsBtrfsLeaf want bytes
unfolding leaf_damages
leaf_tells want bytes =
    let sum = sum_decides want.sums bytes in
    let head = leaf_head_decides want bytes in
    let layout = leaf_layout_decides bytes in (
      λ none.
          let all = none_broken (has_sum want.sums bytes) (has_leaf_head want bytes) (has_leaf_layout bytes) (has_leaf_order bytes) none in
          record {
            sum = sum.0 all.0;
            head = (head.0 all.1).1;
            level = (head.0 all.1).0;
            layout = layout.0 all.2;
            order = all.3;
          },
      λ leaf.
          breaks_none (has_sum want.sums bytes) (has_leaf_head want bytes) (has_leaf_layout bytes) (has_leaf_order bytes)
          (sum.1 leaf.sum) (head.1 (leaf.level, leaf.head)) (layout.1 leaf.layout) leaf.order,
    )

inner_tells : (want : Expect) (bytes : List ℕ) → inner_damages want bytes ≡ [] ↔ IsBtrfsInner want bytes
unfolding inner_damages
inner_tells want bytes =
    let sum = sum_decides want.sums bytes in
    let head = inner_head_decides want bytes in
    let layout = inner_layout_decides bytes in (
      λ none.
          let all = none_broken (has_sum want.sums bytes) (has_inner_head want bytes) (has_inner_layout bytes) (has_inner_order bytes) none in
          record {
            sum = sum.0 all.0;
            level = (head.0 all.1).0;
            some = (head.0 all.1).1;
            head = (head.0 all.1).2;
            layout = layout.0 all.2;
            order = all.3;
          },
      λ node.
          breaks_none (has_sum want.sums bytes) (has_inner_head want bytes) (has_inner_layout bytes) (has_inner_order bytes)
          (sum.1 node.sum) (head.1 (node.level, node.some, node.head)) (layout.1 node.layout) node.order,
    )

pub returns : goal.returns
returns c = λ want bytes. (leaf_tells want bytes, inner_tells want bytes)

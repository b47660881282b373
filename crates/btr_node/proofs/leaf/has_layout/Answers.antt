use Rattle.btr_node.proofs.Imports.{length, ap, arith, length-drop, HEADER_SIZE, Head}
use Rattle.btr_node.proofs.Leaves.{layout_true, layout_false}
use Rattle.btr_node.proofs.leaf.has_layout.Goals as goal

pub has_areas-requires : goal.has_areas-requires
has_areas-requires c = omega (arith, length-drop HEADER_SIZE c.args.bytes.now, ap length c.behind_head.ensures)

pub returns-then-count-bytes : goal.returns-then-count-bytes
returns-then-count-bytes c =
    layout_true c.args.bytes.now c.behind_head.result.now c.of-count.result.count c.has_areas.result (ap (λ (h : Head). h.count) c.of-count.ensures)
    c.behind_head.ensures c.if-count-bytes.true c.has_areas.ensures

pub returns-else-count-bytes : goal.returns-else-count-bytes
returns-else-count-bytes c =
    layout_false c.args.bytes.now c.of-count.result.count (ap (λ (h : Head). h.count) c.of-count.ensures) c.if-count-bytes.false

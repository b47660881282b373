use Rattle.btr_check_fields.proofs.Imports.{refl, sym, ITEM_SIZE, is_packed}
use Rattle.btr_node.proofs.Rows.{next_row, passed, failed, finished}
unfoldable use Rattle.btr_node.specs.Leaf.{item_layout}
use Rattle.btr_check_fields.proofs.node_rules.is_packed.Goals as goal

pub returns-then-not-ends_at : goal.returns-then-not-ends_at
returns-then-not-ends_at c =
    failed _ _ _ _ (sym c.if-not-ends_at.ensures)
    (next_row (is_packed c.loop-i.end) ITEM_SIZE item_layout c.args.count c.loop-i.i c.args.entries.now c.at-head.result c.loop-i-test.true c.at-head.ensures) c.loop-i.invariant

pub loop-i-preserved : goal.loop-i-preserved
loop-i-preserved c =
    passed _ _ _ _ (sym c.if-not-ends_at.ensures)
    (next_row (is_packed c.loop-i.end) ITEM_SIZE item_layout c.args.count c.loop-i.i c.args.entries.now c.at-head.result c.loop-i-test.true c.at-head.ensures) c.loop-i.invariant

pub returns : goal.returns
returns c = finished (is_packed c.loop-i.end) ITEM_SIZE item_layout c.args.count c.loop-i.i c.args.entries.now _ c.loop-i-test.false refl c.loop-i.invariant

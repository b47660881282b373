use Rattle.btr_node.proofs.Imports.{◌*◌, refl, sym, ITEM_SIZE, descends, item_layout}
use Rattle.btr_node.proofs.Rows.{next_row, passed, failed, finished}
use Rattle.btr_node.proofs.areas.descends.Goals as goal

pub returns-then-not-is_within : goal.returns-then-not-is_within
returns-then-not-is_within c =
    failed _ _ _ _ (sym c.if-not-is_within.ensures)
    (next_row (descends (ITEM_SIZE * c.args.count) c.loop-i.end) ITEM_SIZE item_layout c.args.count c.loop-i.i c.args.entries.now c.at-head.result c.loop-i-test.true c.at-head.ensures)
    c.loop-i.invariant

pub loop-i-preserved : goal.loop-i-preserved
loop-i-preserved c =
    passed _ _ _ _ (sym c.if-not-is_within.ensures)
    (next_row (descends (ITEM_SIZE * c.args.count) c.loop-i.end) ITEM_SIZE item_layout c.args.count c.loop-i.i c.args.entries.now c.at-head.result c.loop-i-test.true c.at-head.ensures)
    c.loop-i.invariant

pub returns : goal.returns
returns c =
    finished (descends (ITEM_SIZE * c.args.count) c.loop-i.end) ITEM_SIZE item_layout c.args.count c.loop-i.i c.args.entries.now _
    c.loop-i-test.false refl c.loop-i.invariant

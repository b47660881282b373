use Rattle.btr_node.proofs.Imports.{◌*◌, length, refl, sym, list_all, ITEM_SIZE, is_within, item_layout}
use Rattle.btr_node.proofs.Rows.{next_row, passed, failed, finished}
use Rattle.btr_node.proofs.areas.all_within.Goals as goal

pub returns-then-not-is_within : goal.returns-then-not-is_within
returns-then-not-is_within c =
    let test = is_within (ITEM_SIZE * c.args.count) (length c.args.entries.now) in
    failed _ _ _ _ (sym c.if-not-is_within.ensures)
    (next_row (list_all test) ITEM_SIZE item_layout c.args.count c.loop-i.i c.args.entries.now c.at-head.result c.loop-i-test.true c.at-head.ensures)
    c.loop-i.invariant

pub loop-i-preserved : goal.loop-i-preserved
loop-i-preserved c =
    let test = is_within (ITEM_SIZE * c.args.count) (length c.args.entries.now) in
    passed _ _ _ _ (sym c.if-not-is_within.ensures)
    (next_row (list_all test) ITEM_SIZE item_layout c.args.count c.loop-i.i c.args.entries.now c.at-head.result c.loop-i-test.true c.at-head.ensures)
    c.loop-i.invariant

pub returns : goal.returns
returns c =
    let test = is_within (ITEM_SIZE * c.args.count) (length c.args.entries.now) in
    finished (list_all test) ITEM_SIZE item_layout c.args.count c.loop-i.i c.args.entries.now _
    c.loop-i-test.false refl c.loop-i.invariant

use Rattle.btr_node.proofs.Imports.{◌*◌, drop, refl, sym, ITEM_SIZE, all_apart, item_layout}
use Rattle.btr_node.proofs.Rows.{next_row, passed, failed, finished}
use Rattle.btr_node.proofs.areas.all_apart.Goals as goal

pub returns-then-not-apart_from_later : goal.returns-then-not-apart_from_later
returns-then-not-apart_from_later c =
    failed _ _ _ _ (sym c.if-not-apart_from_later.ensures)
    (next_row all_apart ITEM_SIZE item_layout c.args.count c.loop-i.i c.args.entries.now (item_layout.read (drop (ITEM_SIZE * c.loop-i.i) c.args.entries.now)) c.loop-i-test.true refl)
    c.loop-i.invariant

pub loop-i-preserved : goal.loop-i-preserved
loop-i-preserved c =
    passed _ _ _ _ (sym c.if-not-apart_from_later.ensures)
    (next_row all_apart ITEM_SIZE item_layout c.args.count c.loop-i.i c.args.entries.now (item_layout.read (drop (ITEM_SIZE * c.loop-i.i) c.args.entries.now)) c.loop-i-test.true refl)
    c.loop-i.invariant

pub returns : goal.returns
returns c = finished all_apart ITEM_SIZE item_layout c.args.count c.loop-i.i c.args.entries.now _ c.loop-i-test.false refl c.loop-i.invariant

use Rattle.btr_node.proofs.Imports.{◌∙◌, ◌+◌, drop, refl, sym, ap, list_all, ITEM_SIZE, are_apart, item_layout, records_in, BtrItemHead}
use Rattle.btr_node.proofs.Rows.{next_row, passed, failed, finished}
use Rattle.btr_node.proofs.areas.apart_from_later.Goals as goal

pub returns-then-not-are_apart : goal.returns-then-not-are_apart
returns-then-not-are_apart c =
    failed _ _ _ _ (sym c.if-not-are_apart.ensures)
    (next_row (list_all (are_apart c.at-head.result)) ITEM_SIZE item_layout c.args.count c.loop-j.j c.args.entries.now c.at-later.result c.loop-j-test.true c.at-later.ensures)
    c.loop-j.invariant
    ∙ ap (λ (head : BtrItemHead). list_all (are_apart head) (drop (c.args.i + 1) (records_in ITEM_SIZE item_layout c.args.count c.args.entries.now))) c.at-head.ensures

pub loop-j-preserved : goal.loop-j-preserved
loop-j-preserved c =
    passed _ _ _ _ (sym c.if-not-are_apart.ensures)
    (next_row (list_all (are_apart c.at-head.result)) ITEM_SIZE item_layout c.args.count c.loop-j.j c.args.entries.now c.at-later.result c.loop-j-test.true c.at-later.ensures)
    c.loop-j.invariant

pub returns : goal.returns
returns c =
    finished (list_all (are_apart c.at-head.result)) ITEM_SIZE item_layout c.args.count c.loop-j.j c.args.entries.now _
    c.loop-j-test.false refl c.loop-j.invariant
    ∙ ap (λ (head : BtrItemHead). list_all (are_apart head) (drop (c.args.i + 1) (records_in ITEM_SIZE item_layout c.args.count c.args.entries.now))) c.at-head.ensures

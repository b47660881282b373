use Rattle.btr_node.proofs.Imports.{◌≡◌, ◌+◌, ◌-◌, drop, sym, ap, ◌∙◌, arith, key_layout, ascends, records_in}
use Rattle.btr_node.proofs.Ascending.{before_test, two_keys, last_ascends}
use Rattle.btr_node.proofs.Rows.{passed, failed}
use Rattle.btr_node.proofs.order.keys_ascend.Goals as goal

pub returns-then-not-is_before : goal.returns-then-not-is_before
returns-then-not-is_before c =
    failed _ _ _ _ (sym (before_test c.at-before.result c.at-next.result c.is_before.result c.is_before.ensures) ∙ c.if-not-is_before.true)
    (two_keys c.args.width c.args.count c.loop-i.i c.args.entries.now c.at-before.result c.at-next.result c.loop-i.auto.i c.loop-i-test.true c.at-before.ensures c.at-next.ensures)
    c.loop-i.invariant

pub loop-i-preserved : goal.loop-i-preserved
loop-i-preserved c =
    let back : c.loop-i.i + 1 - 1 ≡ c.loop-i.i = omega arith in
    let keys = records_in c.args.width key_layout c.args.count c.args.entries.now in
    ap (λ k. ascends (drop k keys)) back
    ∙ passed _ _ _ _ (sym (before_test c.at-before.result c.at-next.result c.is_before.result c.is_before.ensures) ∙ c.if-not-is_before.false)
    (two_keys c.args.width c.args.count c.loop-i.i c.args.entries.now c.at-before.result c.at-next.result c.loop-i.auto.i c.loop-i-test.true c.at-before.ensures c.at-next.ensures)
    c.loop-i.invariant

pub returns : goal.returns
returns c = last_ascends c.args.width c.args.count c.loop-i.i c.args.entries.now _ c.loop-i-test.false c.loop-i.invariant

use Rattle.btr_check_sums.proofs.Imports.{map, subst, sym, err_from_is_err_and, walk_refusals, walked_items, bare_item, TellsPart}
use Rattle.btr_check_sums.proofs.Whole.{BreaksItems, items_ended, items_judged}
use Rattle.btr_check_sums.proofs.sum_part.judge_items.Goals as goal

pub returns-in_err-each_item-clause-items : goal.returns-in_err-each_item-clause-items
returns-in_err-each_item-clause-items g c = λ tells image is.
    let err = err_from_is_err_and c.from_residual.result c.from_residual.ensures.1 in
    rw err.1 (subst (TellsPart (BreaksItems (walk_refusals image c.args.ranges.now c.args.tree) c.args.tree.form.nodesize c.args.tree.form.sums (map bare_item (walked_items image c.args.ranges.now c.args.tree)))) (sym err.2)
    (items_ended (walk_refusals image c.args.ranges.now c.args.tree) c.new-pass.result c.args.tree.form.nodesize c.args.tree.form.sums (walked_items image c.args.ranges.now c.args.tree) c.in_err-each_item.field-0.0
    c.new-pass.ensures.nodesize c.new-pass.ensures.kind (c.in_err-each_item.ensures.err tells image is)))

pub returns-clause-items : goal.returns-clause-items
returns-clause-items g c = λ tells image is.
    items_judged c.new-pass.result c.each_item.new.visitor c.args.tree.form.nodesize c.args.tree.form.sums (map bare_item (walked_items image c.args.ranges.now c.args.tree)) c.into_runs.result
    (c.in_ok-each_item.ensures.visited tells image is) c.new-pass.ensures.nodesize c.new-pass.ensures.kind c.new-pass.ensures.none c.into_runs.ensures

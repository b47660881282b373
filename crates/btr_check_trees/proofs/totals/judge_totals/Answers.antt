use Rattle.btr_check_trees.proofs.Imports.{subst, sym, Decides, Super, AreTotals, groups, recount, FindsDevices}
use Rattle.btr_check_trees.proofs.Summing.{sums_asked, sums_decided}
use Rattle.btr_check_trees.proofs.totals.judge_totals.Goals as goal

pub returns-clause-sums : goal.returns-clause-sums
returns-clause-sums c = λ image on keeps read.
    let hold = c.totals_hold-hold.result in
    let chunks = c.as_slice.result.now in
    let all = groups (recount image) in
    let decided = sums_decided image c.args.volume.now c.args.found.now chunks hold on keeps c.as_slice.ensures.value
    (λ others finds.
    subst (λ (s : Super). Decides hold (AreTotals s chunks all others)) c.sup.ensures
    (c.totals_hold-hold.ensures all others read (subst (λ (s : Super). FindsDevices s others c.args.found.now.devices) (sym c.sup.ensures) finds))) in
    sums_asked image c.ask.result hold decided c.ask.ensures.ok c.ask.ensures.err

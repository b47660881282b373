use Rattle.btr_check_sums.proofs.Imports.{subst, sym, ◌∙◌, err_from_is_err_and, TellsPart}
use Rattle.btr_check_sums.proofs.Whole.{BreaksAny, cover_answer, items_answer, sums_judged}
use Rattle.btr_check_sums.proofs.sum_part.judge_sums.Goals as goal

pub returns-in_err-covered-clause-sums : goal.returns-in_err-covered-clause-sums
returns-in_err-covered-clause-sums g c = λ tells image is r tree used ends.
    let err = err_from_is_err_and c.from_residual.result c.from_residual.ensures.1 in
    rw err.1 (subst (TellsPart (BreaksAny image c.args.ranges.now c.args.tree r)) (sym err.2)
    (items_answer image c.args.ranges.now c.args.tree r tree c.in_err-covered.field-0.0 (c.in_err-covered.ensures.items tells image is)))

pub returns-in_err-judge_cover-clause-sums : goal.returns-in_err-judge_cover-clause-sums
returns-in_err-judge_cover-clause-sums g c = λ tells image is r tree used ends.
    let err = err_from_is_err_and c.from_residual-in_err-judge_cover.result c.from_residual-in_err-judge_cover.ensures.1 in
    rw err.1 (subst (TellsPart (BreaksAny image c.args.ranges.now c.args.tree r)) (sym err.2)
    (cover_answer image c.args.ranges.now c.args.tree r tree c.args.used.now c.in_ok-covered.covered used ends (c.in_ok-covered.ensures.items tells image is) c.in_err-judge_cover.field-0.0 c.in_err-judge_cover.ensures.err))

pub returns-clause-sums : goal.returns-clause-sums
returns-clause-sums g c = λ tells image is r tree used ends.
    let same = g.met.S.BlockSource.kept_blocks c.args.src.now c.judge_items.new.src tells c.judge_items.ensures.kept ∙ is in
    sums_judged image c.args.ranges.now c.args.tree r tree c.args.used.now c.in_ok-covered.covered c.judge_data.result used ends (c.in_ok-covered.ensures.items tells image is) c.in_ok-judge_cover.ensures.ok
    (c.judge_data.ensures.right tells image same tree.own)

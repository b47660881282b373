use Rattle.reiser_volume.proofs.Imports.{◌∙◌, sym, subst, err_from_is_err_and, IsFaultOrMemory}
use Rattle.reiser_volume.proofs.Rowed.{rows_answered}
use Rattle.reiser_volume.proofs.volume.Volume.rows.Goals as goal

pub returns-in_err-marks-clause-rows : goal.returns-in_err-marks-clause-rows
returns-in_err-marks-clause-rows g c = λ tells image is accepted opened.
    let fault = c.in_err-marks.ensures.marks tells image is accepted opened in
    let err = err_from_is_err_and c.from_residual-in_err-marks.result c.from_residual-in_err-marks.ensures.1 in
    rw err.1 (subst IsFaultOrMemory (sym err.2) fault)

pub returns-clause-rows : goal.returns-clause-rows
returns-clause-rows g c = λ tells image is accepted opened.
    let has = c.in_ok-paths.ensures image accepted opened in
    let same = g.met.S.BlockSource.kept_blocks _ _ tells c.marks.ensures.kept ∙ is in
    let marked = c.in_ok-marks.ensures.marks tells image is accepted opened in
    rows_answered image c.args.self.now c.in_ok-paths.paths.items accepted opened has c.rows_at.result (c.rows_at.ensures.rows tells image same accepted opened has marked)

pub returns-clause-kept : goal.returns-clause-kept
returns-clause-kept g c = g.met.S.BlockSource.kept_trans _ _ _ c.marks.ensures.kept c.rows_at.ensures.kept

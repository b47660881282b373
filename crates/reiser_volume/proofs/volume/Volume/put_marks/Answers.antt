use Rattle.reiser_volume.proofs.Imports.{◌∙◌, sym, subst, err_from_is_err_and, IsFaultOrMemory}
use Rattle.reiser_volume.proofs.volume.Volume.put_marks.Goals as goal

pub loop-i-preserved : goal.loop-i-preserved
loop-i-preserved g c =
    let before = c.loop-i.invariant in
    record {
      kept = g.met.S.BlockSource.kept_trans _ _ _ (g.met.S.BlockSource.kept_trans _ _ _ before.kept c.tell_window.ensures.kept) c.put_mark.ensures.kept;
      same = c.in_ok-put_mark.ensures.cause.kept (λ e. absurd cc) ∙ (c.in_ok-told.ensures.cause.kept ∙ before.same);
      told = λ tells image is accepted opened marked.
          let same = g.met.S.BlockSource.kept_blocks _ _ tells (g.met.S.BlockSource.kept_trans _ _ _ before.kept c.tell_window.ensures.kept) ∙ is in
          c.in_ok-put_mark.ensures.marks tells image same accepted opened (before.told tells image is accepted opened marked);
    }

pub returns-in_err-put_mark-clause-marks : goal.returns-in_err-put_mark-clause-marks
returns-in_err-put_mark-clause-marks g c = λ tells image is accepted opened marked.
    let before = c.loop-i.invariant in
    let same = g.met.S.BlockSource.kept_blocks _ _ tells (g.met.S.BlockSource.kept_trans _ _ _ before.kept c.tell_window.ensures.kept) ∙ is in
    let fault = c.in_err-put_mark.ensures.marks tells image same accepted opened (before.told tells image is accepted opened marked) in
    let err = err_from_is_err_and c.from_residual-in_err-put_mark.result c.from_residual-in_err-put_mark.ensures.1 in
    rw err.1 (subst IsFaultOrMemory (sym err.2) fault)

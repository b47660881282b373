use Rattle.reiser_volume.proofs.Imports.{◌∙◌, sym, subst, err_from_is_err_and, IsFaultOrMemory}
use Rattle.reiser_volume.proofs.volume.Volume.files_on_disk.Goals as goal

pub loop-place-init : goal.loop-place-init
loop-place-init g c = record {
  kept = c.tell_leaves.ensures.kept;
  same = c.tell_leaves.ensures.faults;
  told = λ tells image is accepted opened marked. marked;
}

pub loop-place-preserved : goal.loop-place-preserved
loop-place-preserved g c =
    let before = c.loop-place.invariant in
    record {
      kept = g.met.S.BlockSource.kept_trans _ _ _ before.kept c.find_file.ensures.kept;
      same = c.in_ok-find_file.ensures.cause.kept (λ e. absurd cc) ∙ before.same;
      told = λ tells image is accepted opened marked.
          let same = g.met.S.BlockSource.kept_blocks c.args.src.now c.loop-place.src tells before.kept ∙ is in
          c.in_ok-find_file.ensures.marks tells image same accepted opened (before.told tells image is accepted opened marked);
    }

pub returns-in_err-find_file-clause-marks : goal.returns-in_err-find_file-clause-marks
returns-in_err-find_file-clause-marks g c = λ tells image is accepted opened marked.
    let before = c.loop-place.invariant in
    let same = g.met.S.BlockSource.kept_blocks c.args.src.now c.loop-place.src tells before.kept ∙ is in
    let fault = c.in_err-find_file.ensures.marks tells image same accepted opened (before.told tells image is accepted opened marked) in
    let err = err_from_is_err_and c.from_residual.result c.from_residual.ensures.1 in
    rw err.1 (subst IsFaultOrMemory (sym err.2) fault)

pub returns-clause-marks : goal.returns-clause-marks
returns-clause-marks g c = λ tells image is accepted opened marked. c.loop-place.invariant.told tells image is accepted opened marked

pub returns-in_err-find_file-clause-kept : goal.returns-in_err-find_file-clause-kept
returns-in_err-find_file-clause-kept g c = g.met.S.BlockSource.kept_trans _ _ _ c.loop-place.invariant.kept c.find_file.ensures.kept

use Rattle.reiser_volume.proofs.Imports.{◌<◌, length, sym, subst, arith, keys, err_from_is_err_and, IsFaultOrMemory}
use Rattle.reiser_volume.proofs.Holding.{fault_or}
use Rattle.reiser_volume.proofs.Keeping.{one_kept}
use Rattle.reiser_volume.proofs.volume.Volume.put_mark.Goals as goal

pub returns-in_err-mark-clause-marks : goal.returns-in_err-mark-clause-marks
returns-in_err-mark-clause-marks g c = λ tells image is accepted opened before.
    let fault = c.in_err-mark.ensures.mark tells image is accepted opened in
    let err = err_from_is_err_and c.from_residual.result c.from_residual.ensures.1 in
    rw err.1 (subst IsFaultOrMemory (sym err.2) (fault_or _ fault))

pub returns-clause-marks : goal.returns-clause-marks
returns-clause-marks g c = λ tells image is accepted opened before.
    let marks = c.args.marks.now.items in
    let within : c.args.place < length marks = omega (arith, c.if-place-len.false, c.len.ensures) in
    one_kept image (keys c.args.self.now.named) marks c.args.place c.in_ok-mark.mark within before (c.in_ok-mark.ensures.mark tells image is accepted opened)

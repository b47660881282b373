use Rattle.reiser_volume.proofs.Imports.{◌∙◌, sym, subst, err_from_is_err_and, keys, AreKeptMarks, IsFaultOrMemory}
use Rattle.reiser_volume.proofs.Keeping.{none_kept}
use Rattle.reiser_volume.proofs.volume.Volume.marks.Goals as goal

pub returns-in_err-files-clause-marks : goal.returns-in_err-files-clause-marks
returns-in_err-files-clause-marks g c = λ tells image is accepted opened.
    let all = keys c.args.self.now.named in
    let none = subst (AreKeptMarks image all) (sym c.in_ok-marks.ensures) (none_kept image all c.count.result) in
    let fault = c.in_err-files.ensures.marks tells image is accepted opened none in
    let err = err_from_is_err_and c.from_residual-in_err-files.result c.from_residual-in_err-files.ensures.1 in
    rw err.1 (subst IsFaultOrMemory (sym err.2) fault)

pub returns-in_err-put_marks-clause-marks : goal.returns-in_err-put_marks-clause-marks
returns-in_err-put_marks-clause-marks g c = λ tells image is accepted opened.
    let all = keys c.args.self.now.named in
    let none = subst (AreKeptMarks image all) (sym c.in_ok-marks.ensures) (none_kept image all c.count.result) in
    let marked = c.in_ok-files.ensures.marks tells image is accepted opened none in
    let same = g.met.S.BlockSource.kept_blocks _ _ tells c.files_on_disk.ensures.kept ∙ is in
    let fault = c.in_err-put_marks.ensures.marks tells image same accepted opened marked in
    let err = err_from_is_err_and c.from_residual-in_err-put_marks.result c.from_residual-in_err-put_marks.ensures.1 in
    rw err.1 (subst IsFaultOrMemory (sym err.2) fault)

pub returns-clause-marks : goal.returns-clause-marks
returns-clause-marks g c = λ tells image is accepted opened.
    let all = keys c.args.self.now.named in
    let none = subst (AreKeptMarks image all) (sym c.in_ok-marks.ensures) (none_kept image all c.count.result) in
    let marked = c.in_ok-files.ensures.marks tells image is accepted opened none in
    let same = g.met.S.BlockSource.kept_blocks _ _ tells c.files_on_disk.ensures.kept ∙ is in
    c.in_ok-put_marks.ensures.marks tells image same accepted opened marked

use Rattle.reiser_volume.proofs.Imports.{sym, subst, err_from_is_err_and, IsFaultOrMemory}
use Rattle.reiser_volume.proofs.Holding.{fault_or, file_read, size_known}
use Rattle.reiser_volume.proofs.content.file_content.Goals as goal

pub returns-in_err-mark-clause-content : goal.returns-in_err-mark-clause-content
returns-in_err-mark-clause-content g c = λ tells image is of at kept.
    let fault = c.in_err-mark.ensures.mark tells image is of (size_known image c.args.volume.now c.args.key of c.args.known.now at) kept in
    let err = err_from_is_err_and c.from_residual.result c.from_residual.ensures.1 in
    rw err.1 (subst IsFaultOrMemory (sym err.2) (fault_or _ fault))

pub returns-clause-content : goal.returns-clause-content
returns-clause-content g c = λ tells image is of at kept.
    let mark = c.in_ok-mark.ensures.mark tells image is of (size_known image c.args.volume.now c.args.key of c.args.known.now at) kept in
    file_read image c.args.volume.now c.args.key of c.args.known.now at c.in_ok-mark.mark c.in_ok-new.field-0 mark c.in_ok-new.ensures

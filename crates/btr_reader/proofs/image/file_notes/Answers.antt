use Rattle.btr_reader.proofs.Imports.{sym, subst, err_from_is_err_and, wrong, IsAmong}
use Rattle.btr_reader.proofs.image.file_notes.Goals as goal

pub returns-in_err-note_items-clause-err : goal.returns-in_err-note_items-clause-err
returns-in_err-note_items-clause-err g c = λ tells image is.
    let err = err_from_is_err_and c.from_residual.result c.from_residual.ensures.1 in
    rw err.1 (subst (IsAmong (wrong image c.args.ranges.now c.args.tree)) (sym err.2) (c.in_err-note_items.ensures.err tells image is))

use Rattle.btr_reader.proofs.Imports.{sym, subst, err_from_is_err_and, IsAmong, opening_refusals}
use Rattle.btr_reader.proofs.Opens.{super_refused}
use Rattle.btr_reader.proofs.volume.Btrfs.open.Goals as goal

pub returns-in_err-sup-clause-refused : goal.returns-in_err-sup-clause-refused
returns-in_err-sup-clause-refused g c = λ tells image is.
    let err = err_from_is_err_and c.from_residual.result c.from_residual.ensures.1 in
    rw err.1 (subst (IsAmong (opening_refusals image)) (sym err.2) (super_refused image c.in_err-sup.field-0.0 (c.in_err-sup.ensures.err tells image is)))

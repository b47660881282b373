use Rattle.btr_reader.proofs.Imports.{◌≡◌, length, ap, sym, subst, ◌∙◌, err_from_is_err_and, IsAmong, opening_refusals}
use Rattle.btr_reader.proofs.PartsRead.{super_answer}
use Rattle.btr_reader.proofs.Opens.{super_refused}
use Rattle.btr_reader.proofs.volume.Btrfs.open_by.Goals as goal

pub returns-in_err-sup-clause-refused : goal.returns-in_err-sup-clause-refused
returns-in_err-sup-clause-refused g c = λ tells image is block.
    let size : c.len.result ≡ length image = c.len.ensures ∙ (g.met.S.BlockSource.size_is c.args.src.now tells ∙ ap length is) in
    let err = err_from_is_err_and c.from_residual.result c.from_residual.ensures.1 in
    rw err.1 (subst (IsAmong (opening_refusals image)) (sym err.2)
    (super_refused image c.in_err-sup.field-0.0 (super_answer image c.args.block.now.bytes c.len.result c.in_err-sup.field-0.0 block size c.in_err-sup.ensures.err)))

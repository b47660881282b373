use Rattle.file_items.proofs.Imports.{sym, subst, err_from_is_err_and, IsFaultOrMemory}
use Rattle.file_items.proofs.files.FileTree.add_object.Goals as goal

pub returns-in_err-held-clause-next : goal.returns-in_err-held-clause-next
returns-in_err-held-clause-next g c = λ tells image is accepted opened placed fits key at.
    let kind_is = c.kind_at-kind.ensures image accepted opened key at in
    let fault = c.in_err-held.ensures.held tells image is accepted opened key at kind_is in
    let err = err_from_is_err_and c.from_residual.result c.from_residual.ensures.1 in
    rw err.1 (subst IsFaultOrMemory (sym err.2) fault)

pub returns-clause-next : goal.returns-clause-next
returns-clause-next g c = λ tells image is accepted opened placed fits key at.
    let kind_is = c.kind_at-kind.ensures image accepted opened key at in
    c.in_ok-add_told.ensures.next image fits placed key at kind_is (c.in_ok-held.ensures.held tells image is accepted opened key at kind_is)

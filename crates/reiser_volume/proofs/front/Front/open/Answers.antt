use Rattle.reiser_volume.proofs.Imports.{◌∙◌, sym, subst, err_from_is_err_and, VolAnswer, RefusesFront}
use Rattle.reiser_volume.proofs.Refusals.{front_of}
use Rattle.reiser_volume.proofs.front.Front.open.Goals as goal

pub returns-in_err-sup-clause-refused : goal.returns-in_err-sup-clause-refused
returns-in_err-sup-clause-refused g c = λ tells image is.
    let err = err_from_is_err_and c.from_residual.result c.from_residual.ensures.1 in
    rw err.1 (subst (λ (e : VolAnswer). RefusesFront image e) (sym err.2) (c.in_err-sup.ensures.refused tells image is))

pub returns-in_err-bitmap-clause-refused : goal.returns-in_err-bitmap-clause-refused
returns-in_err-bitmap-clause-refused g c = λ tells image is.
    let first = g.met.S.BlockSource.kept_blocks c.args.src.now c.read_super.new.src tells c.read_super.ensures.kept ∙ is in
    let err = err_from_is_err_and c.from_residual-in_err-bitmap.result c.from_residual-in_err-bitmap.ensures.1 in
    rw err.1 (subst (λ (e : VolAnswer). RefusesFront image e) (sym err.2) (c.in_err-bitmap.ensures.refused tells image first (c.in_ok-sup.ensures.found tells image is)))

pub returns-clause-found : goal.returns-clause-found
returns-clause-found g c = λ tells image is.
    let first = g.met.S.BlockSource.kept_blocks c.args.src.now c.read_super.new.src tells c.read_super.ensures.kept ∙ is in
    let sup = c.in_ok-sup.ensures.found tells image is in
    front_of image c.in_ok-sup.sup c.in_ok-bitmap.bitmap sup (c.in_ok-bitmap.ensures.found tells image first sup)

use Rattle.reiser_volume.proofs.Imports.{◌∙◌, length, sym, ap, subst, refl, arith, err_from_is_err_and, SUPER_BLOCK, Image, block_at, VolAnswer, IsFrontAnswer, RefusesFront}
use Rattle.reiser_volume.proofs.Refusals.{short_refused, super_found, super_refused, super_known}
use Rattle.reiser_volume.proofs.front.read_super.Goals as goal

pub returns-then-device-le-SUPER_BLOCK-clause-refused : goal.returns-then-device-le-SUPER_BLOCK-clause-refused
returns-then-device-le-SUPER_BLOCK-clause-refused g c = λ tells image is.
    short_refused image (omega (arith, g.met.S.BlockSource.size_is c.args.src.now tells, ap length is, c.len-device.ensures, c.if-device-le-SUPER_BLOCK.true))

pub returns-in_err-sup-clause-answers : goal.returns-in_err-sup-clause-answers
returns-in_err-sup-clause-answers g c =
    let err = err_from_is_err_and c.from_residual-in_err-sup.result c.from_residual-in_err-sup.ensures.1 in
    rw err.1 (subst (λ (e : VolAnswer). IsFrontAnswer e) (sym err.2) (super_known c.read.new.into.bytes c.len-device.result c.in_err-sup.field-0.0 c.in_err-sup.ensures.refusal))

pub returns-in_err-sup-clause-refused : goal.returns-in_err-sup-clause-refused
returns-in_err-sup-clause-refused g c = λ tells image is.
    let err = err_from_is_err_and c.from_residual-in_err-sup.result c.from_residual-in_err-sup.ensures.1 in
    let bytes = c.in_ok-read.ensures.block tells ∙ ap (λ (i : Image). block_at i SUPER_BLOCK) is in
    let size = c.len-device.ensures ∙ (g.met.S.BlockSource.size_is c.args.src.now tells ∙ ap length is) in
    rw err.1 (subst (λ (e : VolAnswer). RefusesFront image e) (sym err.2) (super_refused image _ _ c.in_err-sup.field-0.0 c.in_err-sup.ensures.refusal bytes size))

pub returns-clause-found : goal.returns-clause-found
returns-clause-found g c = λ tells image is.
    let bytes = c.in_ok-read.ensures.block tells ∙ ap (λ (i : Image). block_at i SUPER_BLOCK) is in
    let size = c.len-device.ensures ∙ (g.met.S.BlockSource.size_is c.args.src.now tells ∙ ap length is) in
    super_found image _ _ c.in_ok-sup.sup c.in_ok-sup.ensures.fields (c.in_ok-sup.ensures.clean.0 refl) bytes size

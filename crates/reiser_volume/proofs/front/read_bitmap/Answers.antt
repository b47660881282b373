use Rattle.reiser_volume.proofs.Imports.{◌∙◌, sym, subst, err_from_is_err_and, VolAnswer, RefusesFront}
use Rattle.reiser_volume.proofs.Refusals.{journal_refused, bitmap_refused, bitmap_found}
use Rattle.reiser_volume.proofs.front.read_bitmap.Goals as goal

pub returns-in_err-journal_state-clause-refused : goal.returns-in_err-journal_state-clause-refused
returns-in_err-journal_state-clause-refused g c = λ tells image is found.
    let err = err_from_is_err_and c.from_residual.result c.from_residual.ensures.1 in
    rw err.1 (subst (λ (e : VolAnswer). RefusesFront image e) (sym err.2) (journal_refused image c.args.sup.now found c.in_err-journal_state.field-0.0 (c.in_err-journal_state.ensures.pending tells image is)))

pub returns-in_err-system_used-clause-refused : goal.returns-in_err-system_used-clause-refused
returns-in_err-system_used-clause-refused g c = λ tells image is found.
    let same = g.met.S.BlockSource.kept_blocks c.args.src.now c.journal_state.new.src tells c.journal_state.ensures.kept ∙ is in
    let err = err_from_is_err_and c.from_residual-in_err-system_used.result c.from_residual-in_err-system_used.ensures.1 in
    rw err.1 (subst (λ (e : VolAnswer). RefusesFront image e) (sym err.2)
    (bitmap_refused image c.args.sup.now found c.in_ok-bitmap.bitmap c.in_err-system_used.field-0.0 (c.in_ok-journal_state.ensures.clean tells image is) (c.in_ok-bitmap.ensures.loaded tells image same) c.in_err-system_used.ensures.free))

pub returns-clause-found : goal.returns-clause-found
returns-clause-found g c = λ tells image is found.
    let same = g.met.S.BlockSource.kept_blocks c.args.src.now c.journal_state.new.src tells c.journal_state.ensures.kept ∙ is in
    bitmap_found image c.args.sup.now found c.in_ok-bitmap.bitmap (c.in_ok-journal_state.ensures.clean tells image is) (c.in_ok-bitmap.ensures.loaded tells image same) c.in_ok-system_used.ensures.used

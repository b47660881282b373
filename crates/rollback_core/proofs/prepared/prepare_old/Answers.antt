use Rattle.rollback_core.proofs.Imports.{ℕ, length, sym, ◌∙◌, ap, subst, IfOk, err_from_is_err_and, Answer, used_length, image_blocks, HasRoom, RefusesRollback}
use Rattle.rollback_core.proofs.prepared.prepare_old.Goals as goal

pub returns-in_err-old-clause-prepared : goal.returns-in_err-old-clause-prepared
returns-in_err-old-clause-prepared g c = λ tells image is opened map noted.
    let err = err_from_is_err_and c.from_residual.result c.from_residual.ensures.1 in
    rw err.1 (subst (λ (e : Answer). RefusesRollback image e) (sym err.2) (c.in_err-old.ensures.opened tells image is map))

pub returns-in_err-check_places-clause-prepared : goal.returns-in_err-check_places-clause-prepared
returns-in_err-check_places-clause-prepared g c = λ tells image is opened map noted.
    let old = c.in_ok-old.ensures.opened tells image is map in
    let err = err_from_is_err_and c.from_residual-in_err-check_places.result c.from_residual-in_err-check_places.ensures.1 in
    rw err.1 (subst (λ (e : Answer). RefusesRollback image e) (sym err.2) (c.in_err-check_places.ensures.checked image map old.volume (c.bitmap.ensures ∙ old.bitmap)))

pub returns-in_err-check_reserved-clause-prepared : goal.returns-in_err-check_reserved-clause-prepared
returns-in_err-check_reserved-clause-prepared g c = λ tells image is opened map noted.
    let kept = c.in_ok-old.ensures.kept in
    let old = c.in_ok-old.ensures.opened tells image is map in
    let places = c.in_ok-check_places.ensures.checked image map old.volume (c.bitmap.ensures ∙ old.bitmap) in
    let blocks = c.len.ensures ∙ (ap length (c.bitmap-2.ensures ∙ old.bitmap) ∙ used_length (image_blocks image)) in
    let err = err_from_is_err_and c.from_residual-in_err-check_reserved.result c.from_residual-in_err-check_reserved.ensures.1 in
    rw err.1 (subst (λ (e : Answer). RefusesRollback image e) (sym err.2) (c.in_err-check_reserved.ensures.told tells image (g.met.S.BlockSource.kept_blocks _ _ tells kept ∙ is) opened noted places blocks))

pub returns-in_err-check_reserved-clause-kept : goal.returns-in_err-check_reserved-clause-kept
returns-in_err-check_reserved-clause-kept g c = g.met.S.BlockSource.kept_trans _ _ _ c.in_ok-old.ensures.kept c.in_err-check_reserved.ensures.kept

pub returns-clause-kept : goal.returns-clause-kept
returns-clause-kept g c =
    let kept = c.in_ok-old.ensures.kept in
    let kept2 = g.met.S.BlockSource.kept_trans _ _ _ kept c.in_ok-check_reserved.ensures.kept in
    g.met.S.BlockSource.kept_trans _ _ _ kept2 c.plan.ensures.kept

pub plan-requires-clause-device : goal.plan-requires-clause-device
plan-requires-clause-device g c =
    c.requires.device ∙ sym (g.met.S.BlockSource.kept_size _ _ c.in_ok-check_reserved.ensures.kept ∙ g.met.S.BlockSource.kept_size _ _ c.in_ok-old.ensures.kept)

pub returns-clause-room : goal.returns-clause-room
returns-clause-room g c =
    let kept = c.in_ok-old.ensures.kept in
    let kept2 = g.met.S.BlockSource.kept_trans _ _ _ kept c.in_ok-check_reserved.ensures.kept in
    subst (λ (n : ℕ). IfOk c.plan.result (HasRoom n)) (g.met.S.BlockSource.kept_size _ _ kept2) c.plan.ensures.room

pub returns-clause-prepared : goal.returns-clause-prepared
returns-clause-prepared g c = λ tells image is opened map noted.
    let kept = c.in_ok-old.ensures.kept in
    let kept2 = g.met.S.BlockSource.kept_trans _ _ _ kept c.in_ok-check_reserved.ensures.kept in
    let old = c.in_ok-old.ensures.opened tells image is map in
    let places = c.in_ok-check_places.ensures.checked image map old.volume (c.bitmap.ensures ∙ old.bitmap) in
    let blocks = c.len.ensures ∙ (ap length (c.bitmap-2.ensures ∙ old.bitmap) ∙ used_length (image_blocks image)) in
    let free = c.in_ok-check_reserved.ensures.told tells image (g.met.S.BlockSource.kept_blocks _ _ tells kept ∙ is) opened noted places blocks in
    c.plan.ensures.planned tells image (g.met.S.BlockSource.kept_blocks _ _ tells kept2 ∙ is) map free (c.bitmap-3.ensures ∙ old.bitmap)

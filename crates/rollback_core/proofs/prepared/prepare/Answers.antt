use Rattle.rollback_core.proofs.Imports.{ℕ, sym, ◌∙◌, subst, IfOk, err_from_is_err_and, Answer, HasRoom, RefusesRollback}
use Rattle.rollback_core.proofs.prepared.prepare.Goals as goal

pub returns-in_err-block-clause-prepared : goal.returns-in_err-block-clause-prepared
returns-in_err-block-clause-prepared g c = λ tells image is.
    let err = err_from_is_err_and c.from_residual.result c.from_residual.ensures.1 in
    rw err.1 (subst (λ (e : Answer). RefusesRollback image e) (sym err.2) (c.in_err-block.ensures.found tells image is))

pub returns-in_err-volume-clause-prepared : goal.returns-in_err-volume-clause-prepared
returns-in_err-volume-clause-prepared g c = λ tells image is.
    let kept = c.in_ok-block.ensures.kept in
    let found = c.in_ok-block.ensures.found tells image is in
    let err = err_from_is_err_and c.from_residual-in_err-volume.result c.from_residual-in_err-volume.ensures.1 in
    rw err.1 (subst (λ (e : Answer). RefusesRollback image e) (sym err.2) (c.in_err-volume.ensures.opened tells image (g.met.S.BlockSource.kept_blocks _ _ tells kept ∙ is) found))

pub returns-in_err-found-clause-prepared : goal.returns-in_err-found-clause-prepared
returns-in_err-found-clause-prepared g c = λ tells image is.
    let kept = c.in_ok-block.ensures.kept in
    let kept2 = g.met.S.BlockSource.kept_trans _ _ _ kept c.in_ok-volume.ensures.kept in
    let found = c.in_ok-block.ensures.found tells image is in
    let opened = c.in_ok-volume.ensures.opened tells image (g.met.S.BlockSource.kept_blocks _ _ tells kept ∙ is) found in
    let err = err_from_is_err_and c.from_residual-in_err-found.result c.from_residual-in_err-found.ensures.1 in
    rw err.1 (subst (λ (e : Answer). RefusesRollback image e) (sym err.2) (c.in_err-found.ensures.read tells image (g.met.S.BlockSource.kept_blocks _ _ tells kept2 ∙ is) opened))

pub returns-in_err-found-clause-kept : goal.returns-in_err-found-clause-kept
returns-in_err-found-clause-kept g c =
    let kept = c.in_ok-block.ensures.kept in
    let kept2 = g.met.S.BlockSource.kept_trans _ _ _ kept c.in_ok-volume.ensures.kept in
    g.met.S.BlockSource.kept_trans _ _ _ kept2 c.in_err-found.ensures.kept

pub prepare_old-requires : goal.prepare_old-requires
prepare_old-requires g c =
    record { device = c.in_ok-found.ensures.device ∙ sym (g.met.S.BlockSource.kept_size _ _ c.in_ok-found.ensures.kept) }

pub returns-clause-kept : goal.returns-clause-kept
returns-clause-kept g c =
    let kept = c.in_ok-block.ensures.kept in
    let kept2 = g.met.S.BlockSource.kept_trans _ _ _ kept c.in_ok-volume.ensures.kept in
    let kept3 = g.met.S.BlockSource.kept_trans _ _ _ kept2 c.in_ok-found.ensures.kept in
    g.met.S.BlockSource.kept_trans _ _ _ kept3 c.prepare_old.ensures.kept

pub returns-clause-room : goal.returns-clause-room
returns-clause-room g c =
    let kept = c.in_ok-block.ensures.kept in
    let kept2 = g.met.S.BlockSource.kept_trans _ _ _ kept c.in_ok-volume.ensures.kept in
    let kept3 = g.met.S.BlockSource.kept_trans _ _ _ kept2 c.in_ok-found.ensures.kept in
    subst (λ (n : ℕ). IfOk c.prepare_old.result (HasRoom n)) (g.met.S.BlockSource.kept_size _ _ kept3) c.prepare_old.ensures.room

pub returns-clause-prepared : goal.returns-clause-prepared
returns-clause-prepared g c = λ tells image is.
    let kept = c.in_ok-block.ensures.kept in
    let kept2 = g.met.S.BlockSource.kept_trans _ _ _ kept c.in_ok-volume.ensures.kept in
    let kept3 = g.met.S.BlockSource.kept_trans _ _ _ kept2 c.in_ok-found.ensures.kept in
    let found = c.in_ok-block.ensures.found tells image is in
    let opened = c.in_ok-volume.ensures.opened tells image (g.met.S.BlockSource.kept_blocks _ _ tells kept ∙ is) found in
    let here = g.met.S.BlockSource.kept_blocks _ _ tells kept2 ∙ is in
    let map = c.in_ok-found.ensures.read tells image here opened in
    let noted = c.in_ok-found.ensures.reserved tells image here opened in
    c.prepare_old.ensures.prepared tells image (g.met.S.BlockSource.kept_blocks _ _ tells kept3 ∙ is) opened map noted

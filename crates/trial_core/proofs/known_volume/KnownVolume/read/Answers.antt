use Rattle.trial_core.proofs.Imports.{◌≡◌, Bool, true, List, sym, ◌∙◌, ap, subst, err_from_is_err_and, Answer, has, used_of, used_mark, IsStop}
use Rattle.trial_core.proofs.known_volume.KnownVolume.read.Goals as goal

pub returns-in_err-used-clause-told : goal.returns-in_err-used-clause-told
returns-in_err-used-clause-told g c = λ tells image is accepted.
    let err = err_from_is_err_and c.from_residual.result c.from_residual.ensures.1 in
    rw err.1 (subst (λ (e : Answer). IsStop e) (sym err.2) (c.in_err-used.ensures.told tells image is accepted))

pub returns-in_err-rows-clause-kept : goal.returns-in_err-rows-clause-kept
returns-in_err-rows-clause-kept g c = g.met.S.BlockSource.kept_trans _ _ _ c.read_used.ensures.kept c.read_rows.ensures.kept

pub returns-in_err-rows-clause-told : goal.returns-in_err-rows-clause-told
returns-in_err-rows-clause-told g c = λ tells image is accepted.
    let here = g.met.S.BlockSource.kept_blocks _ _ tells c.read_used.ensures.kept ∙ is in
    let err = err_from_is_err_and c.from_residual-in_err-rows.result c.from_residual-in_err-rows.ensures.1 in
    rw err.1 (subst (λ (e : Answer). IsStop e) (sym err.2) (c.in_err-rows.ensures.told tells image here accepted))

pub returns-clause-kept : goal.returns-clause-kept
returns-clause-kept g c = g.met.S.BlockSource.kept_trans _ _ _ (g.met.S.BlockSource.kept_trans _ _ _ c.read_used.ensures.kept c.read_rows.ensures.kept) c.read_mark.ensures.kept

pub returns-in_err-mark-clause-kept : goal.returns-in_err-mark-clause-kept
returns-in_err-mark-clause-kept g c = g.met.S.BlockSource.kept_trans _ _ _ (g.met.S.BlockSource.kept_trans _ _ _ c.read_used.ensures.kept c.read_rows.ensures.kept) c.read_mark.ensures.kept

pub returns-clause-told : goal.returns-clause-told
returns-clause-told g c = λ tells image is accepted.
    let here = g.met.S.BlockSource.kept_blocks _ _ tells c.read_used.ensures.kept ∙ is in
    let now = g.met.S.BlockSource.kept_blocks _ _ tells c.read_rows.ensures.kept ∙ here in
    let used : c.in_ok-used.used ≡ used_of image = c.in_ok-used.ensures.told tells image is accepted in
    record {
      rows = c.in_ok-rows.ensures.told tells image here accepted;
      used = used;
      mark = c.in_ok-mark.ensures.mark tells image now ∙ ap (λ (u : List Bool). used_mark u image) used;
      bytes = λ b marked. c.in_ok-mark.ensures.bytes tells image now b (subst (λ (u : List Bool). has u b ≡ true) (sym used) marked);
    }

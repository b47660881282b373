use Rattle.trial_core.proofs.Imports.{sym, ◌∙◌, ap, subst, HasBtrfsRows, Image, block_at, Answer, StopsUnless, by_step, SUPER_BLOCK}
use Rattle.trial_core.proofs.Refusing.{btrfs_refused}
use Rattle.trial_core.proofs.between.read_btrfs_rows.Goals as goal

pub returns-in-Err-clause-told : goal.returns-in-Err-clause-told
returns-in-Err-clause-told g c = λ tells image is.
    let here = g.met.S.BlockSource.kept_blocks _ _ tells c.in_ok-read.ensures.kept ∙ is in
    let block = c.in_ok-read.ensures.block tells ∙ ap (λ (disk : Image). block_at disk SUPER_BLOCK) is in
    subst (λ (e : Answer). StopsUnless (HasBtrfsRows image) e) (sym (c.step_answer.ensures ∙ ap by_step c.from.ensures)) (btrfs_refused image c.in-Err.answer (c.in-Err.ensures.rows tells image here block))

use Rattle.trial_core.proofs.Imports.{◌∙◌, ap, sym, subst, IsStop, by_step}
use Rattle.trial_core.proofs.Refusing.{rows_stopped, volume_refused}
use Rattle.trial_core.proofs.known_volume.read_rows.Goals as goal

pub returns-in-Err-clause-told : goal.returns-in-Err-clause-told
returns-in-Err-clause-told g c = λ tells image is accepted.
    subst IsStop (sym (c.step_answer.ensures ∙ ap by_step c.from.ensures)) (volume_refused c.refusals_break_rules.ensures image c.in-Err.answer accepted (c.in-Err.ensures.refused tells image is))

pub returns-in-Ok-rows-clause-told : goal.returns-in-Ok-rows-clause-told
returns-in-Ok-rows-clause-told g c = λ tells image is accepted.
    c.in-Ok-rows.ensures.rows tells image (g.met.S.BlockSource.kept_blocks _ _ tells c.in-Ok.ensures.kept ∙ is) accepted (c.in-Ok.ensures.opened tells image is)

pub returns-clause-told : goal.returns-clause-told
returns-clause-told g c = λ tells image is accepted.
    subst IsStop (sym (c.step_answer-in-Err-rows.ensures ∙ ap by_step c.from-in-Err-rows.ensures))
    (rows_stopped c.in-Err-rows.answer (c.in-Err-rows.ensures.rows tells image (g.met.S.BlockSource.kept_blocks _ _ tells c.in-Ok.ensures.kept ∙ is) accepted (c.in-Ok.ensures.opened tells image is)))

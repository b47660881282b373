use Rattle.trial_core.proofs.Imports.{◌∙◌, ap, sym, subst, IsStop, by_step}
use Rattle.trial_core.proofs.Refusing.{front_refused}
use Rattle.trial_core.proofs.known_volume.read_used.Goals as goal

pub returns-in-Ok-clause-told : goal.returns-in-Ok-clause-told
returns-in-Ok-clause-told g c = λ tells image is accepted. (c.in-Ok.ensures.found tells image is).bitmap

pub returns-in-Err-clause-told : goal.returns-in-Err-clause-told
returns-in-Err-clause-told g c = λ tells image is accepted.
    subst IsStop (sym (c.step_answer.ensures ∙ ap by_step c.from.ensures)) (front_refused c.fronts_are_judged.ensures image c.in-Err.answer accepted (c.in-Err.ensures.refused tells image is))

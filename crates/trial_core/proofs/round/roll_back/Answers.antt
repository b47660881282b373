use Rattle.trial_core.proofs.Imports.{sym, subst, Answer, CanGoBack, IsTrialReadAnswer, StopsUnless, first_goes_on}
use Rattle.trial_core.proofs.Refusing.{rollback_known, rollback_refused}
use Rattle.trial_core.proofs.round.roll_back.Goals as goal

pub returns-in-Ok-clause-told : goal.returns-in-Ok-clause-told
returns-in-Ok-clause-told g c = λ tells image is. (c.in-Ok.ensures.rolled_back tells image is).0

pub returns-in-Err-clause-told : goal.returns-in-Err-clause-told
returns-in-Err-clause-told g c = λ tells image is.
    subst (λ (e : Answer). StopsUnless (CanGoBack image) e) (sym c.step_answer.ensures)
    (rollback_refused c.refused_can_not_go_back.ensures image c.in-Err.answer (c.in-Err.ensures.rolled_back tells image is))

pub returns-in-Err-clause-answers : goal.returns-in-Err-clause-answers
returns-in-Err-clause-answers g c = subst IsTrialReadAnswer (sym c.step_answer.ensures) (rollback_known c.in-Err.answer c.in-Err.ensures.answers)

pub returns-in-Ok-clause-grows : goal.returns-in-Ok-clause-grows
returns-in-Ok-clause-grows g c = λ tells. first_goes_on _ _ (c.rollback.ensures.crash tells).first

pub returns-in-Err-clause-grows : goal.returns-in-Err-clause-grows
returns-in-Err-clause-grows g c = λ tells. first_goes_on _ _ (c.rollback.ensures.crash tells).first

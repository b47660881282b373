use Rattle.rollback_core.proofs.Imports.{◌≢◌, ◌≡◌, ◌∙◌, ap, subst, IfErr, History, reads, synced_then, uncalled, IsLeftByRollback}
use Rattle.convert_steps.specs.command_answers.declared.answer.Answer.TheVariants as answer
use Rattle.rollback_core.proofs.rolling.rollback.Goals as goal

pub returns-in_err-sync-clause-crash : goal.returns-in_err-sync-clause-crash
returns-in_err-sync-clause-crash g c = λ tells. uncalled _ _ _ (c.in_err-sync.ensures.effect tells)

pub returns-clause-crash : goal.returns-clause-crash
returns-clause-crash g c = λ tells.
    synced_then IsLeftByRollback _ _ _ (c.in_ok-sync.ensures.effect tells) (c.rollback_settled.ensures.grows tells) (c.rollback_settled.ensures.crash tells)

pub returns-clause-rolled_back : goal.returns-clause-rolled_back
returns-clause-rolled_back g c = λ tells image is. c.rollback_settled.ensures.rolled_back tells image (ap reads (c.in_ok-sync.ensures.effect tells) ∙ is)

pub returns-clause-refused : goal.returns-clause-refused
returns-clause-refused g c = λ tells.
    subst (λ (h : History). IfErr c.rollback_settled.result (λ e. e ≢ answer.Fault → g.D.Disk.history c.rollback_settled.new.disk ≡ h)) (c.in_ok-sync.ensures.effect tells)
    (c.rollback_settled.ensures.refused tells)

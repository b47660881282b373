use Rattle.rollback_core.proofs.Imports.{◌≢◌, ◌≡◌, ◌∙◌, inl, inr, ap, subst, IfErr, IfOk, History, reads, synced_then, uncalled, synced_settled, RecoverSummary, IsPutBackAlone, is_half_turned, IsLeftByRecovery, PutsBackFirst}
use Rattle.convert_steps.specs.command_answers.declared.answer.Answer.TheVariants as answer
use Rattle.rollback_core.proofs.Rewriting.{called_only, puts_goes_on, uncalled_only}
use Rattle.rollback_core.proofs.recovery.recover.Goals as goal

pub returns-in_err-sync-clause-crash : goal.returns-in_err-sync-clause-crash
returns-in_err-sync-clause-crash g c = λ tells. uncalled _ _ _ (c.in_err-sync.ensures.effect tells)

pub returns-in_err-sync-clause-only : goal.returns-in_err-sync-clause-only
returns-in_err-sync-clause-only g c = λ tells. uncalled_only _ _ (c.in_err-sync.ensures.effect tells)

pub returns-in_err-sync-clause-order : goal.returns-in_err-sync-clause-order
returns-in_err-sync-clause-order g c = λ tells. inl (c.in_err-sync.ensures.effect tells)

pub returns-clause-crash : goal.returns-clause-crash
returns-clause-crash g c = λ tells.
    synced_then IsLeftByRecovery _ _ _ (c.in_ok-sync.ensures.effect tells) (puts_goes_on _ _ (c.recover_synced.ensures.order tells)) (c.recover_synced.ensures.crash tells)

pub returns-clause-only : goal.returns-clause-only
returns-clause-only g c = λ tells. called_only _ _ _ (c.in_ok-sync.ensures.effect tells) (c.recover_synced.ensures.order tells)

pub returns-clause-order : goal.returns-clause-order
returns-clause-order g c = λ tells.
    inr (subst (λ (h : History). PutsBackFirst h (g.D.Disk.history c.recover_synced.new.disk)) (c.in_ok-sync.ensures.effect tells) (c.recover_synced.ensures.order tells))

pub returns-clause-recovered : goal.returns-clause-recovered
returns-clause-recovered g c = λ tells image is. c.recover_synced.ensures.recovered tells image (ap reads (c.in_ok-sync.ensures.effect tells) ∙ is)

pub returns-clause-unwritten : goal.returns-clause-unwritten
returns-clause-unwritten g c = λ tells none.
    subst (λ (h : History). IfOk c.recover_synced.result (λ (told : RecoverSummary). told.mirrors ≡ 0 → g.D.Disk.history c.recover_synced.new.disk ≡ h)) (c.in_ok-sync.ensures.effect tells)
    (c.recover_synced.ensures.unwritten tells (ap (λ (h : History). is_half_turned (reads h)) (c.in_ok-sync.ensures.effect tells) ∙ none))

pub returns-clause-settled : goal.returns-clause-settled
returns-clause-settled g c = λ tells. c.recover_synced.ensures.settled tells (synced_settled _ _ (c.in_ok-sync.ensures.effect tells))

pub returns-clause-refused : goal.returns-clause-refused
returns-clause-refused g c = λ tells.
    subst (λ (h : History). IfErr c.recover_synced.result (λ e. e ≢ answer.Fault → IsPutBackAlone h (g.D.Disk.history c.recover_synced.new.disk))) (c.in_ok-sync.ensures.effect tells)
    (c.recover_synced.ensures.refused tells)

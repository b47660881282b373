use Rattle.trial_core.proofs.Imports.{◌∙◌, inl, ap, subst, IfErr, History, reads, synced_first, LeavesRefused}
use Rattle.trial_core.proofs.whole.trial.Goals as goal

pub returns-in_err-sync-clause-first : goal.returns-in_err-sync-clause-first
returns-in_err-sync-clause-first g c = λ tells. inl (c.in_err-sync.ensures.effect tells)

pub returns-clause-first : goal.returns-clause-first
returns-clause-first g c = λ tells. synced_first _ _ _ (c.in_ok-sync.ensures.effect tells) (c.trial_settled.ensures.grows tells)

pub returns-clause-tried : goal.returns-clause-tried
returns-clause-tried g c = λ tells image is. c.trial_settled.ensures.tried tells image (ap reads (c.in_ok-sync.ensures.effect tells) ∙ is)

pub returns-clause-leaves : goal.returns-clause-leaves
returns-clause-leaves g c = λ tells.
    subst (λ (h : History). IfErr c.trial_settled.result (LeavesRefused c.args.number h (g.D.Disk.history c.trial_settled.new.disk))) (c.in_ok-sync.ensures.effect tells)
    (c.trial_settled.ensures.leaves tells)

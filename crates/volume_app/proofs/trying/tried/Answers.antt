use Rattle.volume_app.proofs.Imports.{inl, ap, subst, SyncsFirst, synced_now, History, reads, LeavesRefused}
use Rattle.std.proofs.Common.{IfErr}
use Rattle.volume_app.proofs.trying.tried.Goals as goal

pub returns-clause-right : goal.returns-clause-right
returns-clause-right g c = λ tells. c.trial.ensures.tried tells (reads (g.D.Disk.history c.args.disk.now)) (ap reads (c.open.ensures.unchanged tells))

pub returns-clause-leaves : goal.returns-clause-leaves
returns-clause-leaves g c = λ tells.
    subst (λ (h : History). IfErr c.trial.result (LeavesRefused c.args.number (synced_now h) (g.D.Disk.history c.trial.new.disk)))
    (c.open.ensures.unchanged tells) (c.trial.ensures.leaves tells)

pub returns-clause-first : goal.returns-clause-first
returns-clause-first g c = λ tells. subst (λ (h : History). SyncsFirst h (g.D.Disk.history c.trial.new.disk)) (c.open.ensures.unchanged tells) (c.trial.ensures.first tells)

pub returns-in_err-open-clause-first : goal.returns-in_err-open-clause-first
returns-in_err-open-clause-first g c = λ tells. inl (c.open.ensures.unchanged tells)

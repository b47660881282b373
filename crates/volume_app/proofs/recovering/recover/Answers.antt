use Rattle.volume_app.proofs.Imports.{◌≡◌, inl, ap, subst, IfErr, Fault, CrashesSynced, synced_now, uncalled, History, reads, RewritesBeforeCopies, IsLeftByRecovery, IsPutBackAlone}
use Rattle.std.proofs.Common.{◌≢◌}
use Rattle.volume_app.proofs.recovering.recover.Goals as goal

pub returns-clause-right : goal.returns-clause-right
returns-clause-right g c = λ tells. c.recover.ensures.recovered tells (reads (g.D.Disk.history c.args.disk.now)) (ap reads (c.open.ensures.unchanged tells))

pub returns-clause-crash : goal.returns-clause-crash
returns-clause-crash g c = λ tells.
    subst (λ (h : History). CrashesSynced h (g.D.Disk.history c.recover.new.disk) (IsLeftByRecovery (reads h))) (c.open.ensures.unchanged tells) (c.recover.ensures.crash tells)

pub returns-in_err-open-clause-crash : goal.returns-in_err-open-clause-crash
returns-in_err-open-clause-crash g c = λ tells. uncalled _ _ _ (c.open.ensures.unchanged tells)

pub returns-clause-order : goal.returns-clause-order
returns-clause-order g c = λ tells. subst (λ (h : History). RewritesBeforeCopies h (g.D.Disk.history c.recover.new.disk)) (c.open.ensures.unchanged tells) (c.recover.ensures.order tells)

pub returns-in_err-open-clause-order : goal.returns-in_err-open-clause-order
returns-in_err-open-clause-order g c = λ tells. inl (c.open.ensures.unchanged tells)

pub returns-clause-refused : goal.returns-clause-refused
returns-clause-refused g c = λ tells.
    subst (λ (h : History). IfErr c.recover.result (λ e. e ≢ Fault → IsPutBackAlone (synced_now h) (g.D.Disk.history c.recover.new.disk))) (c.open.ensures.unchanged tells) (c.recover.ensures.refused tells)

use Rattle.volume_app.proofs.Imports.{◌≡◌, ap, subst, IfErr, Fault, CrashesSynced, synced_now, uncalled, History, reads, IsLeftByRollback}
use Rattle.std.proofs.Common.{◌≢◌}
use Rattle.volume_app.proofs.rolling_back.roll_back.Goals as goal

pub returns-clause-right : goal.returns-clause-right
returns-clause-right g c = λ tells. c.rollback.ensures.rolled_back tells (reads (g.D.Disk.history c.args.disk.now)) (ap reads (c.open.ensures.unchanged tells))

pub returns-clause-crash : goal.returns-clause-crash
returns-clause-crash g c = λ tells.
    subst (λ (h : History). CrashesSynced h (g.D.Disk.history c.rollback.new.disk) (IsLeftByRollback (reads h))) (c.open.ensures.unchanged tells) (c.rollback.ensures.crash tells)

pub returns-in_err-open-clause-crash : goal.returns-in_err-open-clause-crash
returns-in_err-open-clause-crash g c = λ tells. uncalled _ _ _ (c.open.ensures.unchanged tells)

pub returns-clause-refused : goal.returns-clause-refused
returns-clause-refused g c = λ tells.
    subst (λ (h : History). IfErr c.rollback.result (λ e. e ≢ Fault → g.D.Disk.history c.rollback.new.disk ≡ synced_now h)) (c.open.ensures.unchanged tells) (c.rollback.ensures.refused tells)

use Rattle.rollback_core.proofs.Imports.{sym, subst, on_ok, sync_reads, one_sync, then_writes, weaker_writes, AreWiped}
use Rattle.rollback_core.proofs.Phases.{both_wiped, first_wiping, second_wiping}
use Rattle.rollback_core.proofs.restore.wipe_copies.Goals as goal

pub returns-in_err-wipe_if-clause-writes : goal.returns-in_err-wipe_if-clause-writes
returns-in_err-wipe_if-clause-writes g c = weaker_writes (first_wiping c.args.way.now) c.wipe_if.ensures.writes

pub returns-in_err-wipe_if-2-clause-writes : goal.returns-in_err-wipe_if-2-clause-writes
returns-in_err-wipe_if-2-clause-writes g c =
    then_writes (weaker_writes (first_wiping c.args.way.now) c.wipe_if.ensures.writes) (weaker_writes (second_wiping c.args.way.now) c.wipe_if-2.ensures.writes)

pub returns-clause-writes : goal.returns-clause-writes
returns-clause-writes g c =
    then_writes (weaker_writes (first_wiping c.args.way.now) c.wipe_if.ensures.writes)
    (then_writes (weaker_writes (second_wiping c.args.way.now) c.wipe_if-2.ensures.writes)
    (one_sync c.sync.result c.sync.ensures.open c.sync.ensures.size c.sync.ensures.borrow c.sync.ensures.effect))

pub returns-clause-written : goal.returns-clause-written
returns-clause-written g c = λ tells.
    on_ok c.sync.result _
    (subst (AreWiped c.args.way.now) (sym (sync_reads (g.D.Disk.history c.wipe_if-2.new.disk) _ _ (c.sync.ensures.effect tells)))
    (both_wiped c.args.way.now (g.D.Disk.history c.wipe_if.new.disk) (g.D.Disk.history c.wipe_if-2.new.disk)
    (c.in_ok-wipe_if.ensures.written tells) (c.in_ok-wipe_if-2.ensures.written tells) (c.wipe_if-2.ensures.writes.only tells)))

use Rattle.rollback_core.proofs.Imports.{◌≡◌, take, IsTrue, reads, Writes, view, IsSavedPlace, AreWrittenBack}
use Rattle.rollback_core.proofs.restore.write_reserved.Given as goal

abbrev pub invariant-loop-block : goal.invariant-loop-block
invariant-loop-block g l = record {
  writes : Writes (view g.D.BlockSource g.D.Disk) (λ b _. IsSavedPlace l.saved b) l.initial.disk l.disk;
  same : g.D.BlockSource.faults l.disk ≡ g.D.BlockSource.faults l.initial.disk;
  written : IsTrue g.D.BlockSource.tells → AreWrittenBack (take l.block-index l.saved) (reads (g.D.Disk.history l.disk));
}

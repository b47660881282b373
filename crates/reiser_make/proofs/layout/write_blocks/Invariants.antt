use Rattle.reiser_make.proofs.Imports.{IsTrue, map, range_with_len, IsUsed, data_placed}
use Rattle.reiser_make.proofs.Laying.{Goes}
use Rattle.reiser_make.proofs.layout.write_blocks.Given as goal

abbrev pub invariant-loop-j : goal.invariant-loop-j
invariant-loop-j g l =
    Goes (IsTrue g.D.BlockSource.tells) (IsUsed l.usage) (g.D.Disk.opened l.initial.disk) (g.D.Disk.opened l.disk) (g.D.BlockSource.size l.initial.disk) (g.D.BlockSource.size l.disk)
    (g.D.BlockSource.faults l.initial.disk) (g.D.BlockSource.faults l.disk) (g.D.Disk.history l.initial.disk) (g.D.Disk.history l.disk)
    (map (data_placed l.plan.sample l.i l.sparse) (range_with_len 0 l.j))

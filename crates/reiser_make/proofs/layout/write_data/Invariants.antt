use Rattle.reiser_make.proofs.Imports.{IsTrue, range_with_len, flat_map, IsUsed, data_of_name}
use Rattle.reiser_make.proofs.Laying.{Goes}
use Rattle.reiser_make.proofs.layout.write_data.Given as goal

abbrev pub invariant-loop-i : goal.invariant-loop-i
invariant-loop-i g l =
    Goes (IsTrue g.D.BlockSource.tells) (IsUsed l.usage) (g.D.Disk.opened l.initial.disk) (g.D.Disk.opened l.disk) (g.D.BlockSource.size l.initial.disk) (g.D.BlockSource.size l.disk)
    (g.D.BlockSource.faults l.initial.disk) (g.D.BlockSource.faults l.disk) (g.D.Disk.history l.initial.disk) (g.D.Disk.history l.disk)
    (flat_map (data_of_name l.plan.sample) (range_with_len 0 l.i))

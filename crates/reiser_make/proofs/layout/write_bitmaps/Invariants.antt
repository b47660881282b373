use Rattle.reiser_make.proofs.Imports.{◌-◌, IsTrue, map, range_with_len, IsUsed, bitmap_placed}
use Rattle.reiser_make.proofs.Laying.{Goes}
use Rattle.reiser_make.proofs.layout.write_bitmaps.Given as goal

abbrev pub invariant-loop-k : goal.invariant-loop-k
invariant-loop-k g l =
    Goes (IsTrue g.D.BlockSource.tells) (IsUsed l.usage) (g.D.Disk.opened l.initial.disk) (g.D.Disk.opened l.disk) (g.D.BlockSource.size l.initial.disk) (g.D.BlockSource.size l.disk)
    (g.D.BlockSource.faults l.initial.disk) (g.D.BlockSource.faults l.disk) (g.D.Disk.history l.initial.disk) (g.D.Disk.history l.disk)
    (map (bitmap_placed l.usage.needed l.usage.blocks) (range_with_len 1 (l.k - 1)))

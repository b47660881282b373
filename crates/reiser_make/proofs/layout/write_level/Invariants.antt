use Rattle.reiser_make.proofs.Imports.{IsTrue, map, range_with_len, BeginsAtPlace, IsUsed, inner_placed}
use Rattle.reiser_make.proofs.Laying.{Goes}
use Rattle.reiser_make.proofs.layout.write_level.Given as goal

abbrev pub invariant-loop-m : goal.invariant-loop-m
invariant-loop-m g l =
    record {
      goes :
          Goes (IsTrue g.D.BlockSource.tells) (IsUsed l.usage) (g.D.Disk.opened l.initial.disk) (g.D.Disk.opened l.disk) (g.D.BlockSource.size l.initial.disk) (g.D.BlockSource.size l.disk)
          (g.D.BlockSource.faults l.initial.disk) (g.D.BlockSource.faults l.disk) (g.D.Disk.history l.initial.disk) (g.D.Disk.history l.disk)
          (map (inner_placed l.plan.sample l.below.number) (range_with_len 0 l.m));
      stands : BeginsAtPlace l.plan.sample l.walk;
    }

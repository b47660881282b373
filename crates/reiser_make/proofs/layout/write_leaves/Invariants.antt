use Rattle.reiser_make.proofs.Imports.{◌≡◌, drop, IsTrue, map, range_with_len, IsUsed, leaf_placed, leaves, leaves_of, items_behind}
use Rattle.reiser_make.proofs.Laying.{Goes}
use Rattle.reiser_make.proofs.layout.write_leaves.Given as goal

abbrev pub invariant-loop-m : goal.invariant-loop-m
invariant-loop-m g l =
    record {
      goes :
          Goes (IsTrue g.D.BlockSource.tells) (IsUsed l.usage) (g.D.Disk.opened l.initial.disk) (g.D.Disk.opened l.disk) (g.D.BlockSource.size l.initial.disk) (g.D.BlockSource.size l.disk)
          (g.D.BlockSource.faults l.initial.disk) (g.D.BlockSource.faults l.disk) (g.D.Disk.history l.initial.disk) (g.D.Disk.history l.disk)
          (map (leaf_placed l.plan.sample) (range_with_len 0 l.m));
      stands : leaves_of (items_behind l.plan.sample l.at) ≡ drop l.m (leaves l.plan.sample);
    }

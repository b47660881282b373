use Rattle.reiser_make.proofs.Imports.{◌-◌, IsTrue, range_with_len, flat_map, IsUsed, level_part}
use Rattle.reiser_make.proofs.Laying.{Goes}
use Rattle.reiser_make.proofs.Rising.{Climbs}
use Rattle.reiser_make.proofs.layout.write_inner.Given as goal

abbrev pub decreases-loop-below : goal.decreases-loop-below
decreases-loop-below g l = l.below.nodes - 1

abbrev pub invariant-loop-below : goal.invariant-loop-below
invariant-loop-below g l =
    record {
      climbs : Climbs l.plan.leaf_count l.below;
      goes :
          Goes (IsTrue g.D.BlockSource.tells) (IsUsed l.usage) (g.D.Disk.opened l.initial.disk) (g.D.Disk.opened l.disk) (g.D.BlockSource.size l.initial.disk) (g.D.BlockSource.size l.disk)
          (g.D.BlockSource.faults l.initial.disk) (g.D.BlockSource.faults l.disk) (g.D.Disk.history l.initial.disk) (g.D.Disk.history l.disk)
          (flat_map (level_part l.plan.sample) (range_with_len 1 (l.below.number - 1)));
    }

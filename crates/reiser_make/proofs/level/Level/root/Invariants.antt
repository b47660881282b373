use Rattle.reiser_make.proofs.Imports.{◌-◌}
use Rattle.reiser_make.proofs.Rising.{Climbs}
use Rattle.reiser_make.proofs.level.Level.root.Given as goal

abbrev pub invariant-loop-level : goal.invariant-loop-level
invariant-loop-level l = Climbs l.count l.level

abbrev pub decreases-loop-level : goal.decreases-loop-level
decreases-loop-level l = l.level.nodes - 1

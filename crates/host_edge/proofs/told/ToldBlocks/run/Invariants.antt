use Rattle.host_edge.proofs.Imports.{◌-◌, ◌<◌, ◌≤◌}
use Rattle.host_edge.proofs.told.ToldBlocks.run.Given as goal

abbrev pub invariant-loop-count : goal.invariant-loop-count
invariant-loop-count l = (0 < l.count) × (l.count ≤ l.most)

abbrev pub decreases-loop-count : goal.decreases-loop-count
decreases-loop-count l = l.most - l.count

use Rattle.host_edge.proofs.Imports.{◌-◌, ◌≤◌}
use Rattle.host_edge.proofs.opened.Opened.read.Given as goal

abbrev pub invariant-loop-at : goal.invariant-loop-at
invariant-loop-at l = l.at ≤ 4096

abbrev pub decreases-loop-at : goal.decreases-loop-at
decreases-loop-at l = 4096 - l.at

use Rattle.host_edge.proofs.Imports.{◌-◌, ◌≤◌}
use Rattle.host_edge.proofs.opened.Opened.read_window.Given as goal

abbrev pub invariant-loop-at : goal.invariant-loop-at
invariant-loop-at g l = l.at ≤ l.window.end

abbrev pub decreases-loop-at : goal.decreases-loop-at
decreases-loop-at g l = l.window.end - l.at

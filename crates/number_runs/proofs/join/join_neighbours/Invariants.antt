use Rattle.number_runs.proofs.Joining.{IsJoined}
use Rattle.number_runs.proofs.join.join_neighbours.Given as goal

abbrev pub invariant-loop-i : goal.invariant-loop-i
invariant-loop-i l = IsJoined l.fn.runs l.runs l.joined l.kept l.i

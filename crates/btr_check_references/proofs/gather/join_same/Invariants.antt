use Rattle.btr_check_references.proofs.Joining.{IsJoinedUpTo}
use Rattle.btr_check_references.proofs.gather.join_same.Given as goal

abbrev pub invariant-loop-i : goal.invariant-loop-i
invariant-loop-i l = IsJoinedUpTo l.fn.entries l.entries l.i l.kept

use Rattle.btr_check_names.proofs.Imports.{take, AreAbove}
use Rattle.btr_check_names.proofs.dirs.above_of.Given as goal

abbrev pub invariant-loop-i : goal.invariant-loop-i
invariant-loop-i l = AreAbove l.dirs (take l.i l.list) l.above.items

use Rattle.btr_check_forms.proofs.Imports.{length}
use Rattle.btr_check_forms.proofs.Gone.{LeavesNew}
use Rattle.btr_check_forms.proofs.attributes.is_new.Given as goal

abbrev pub invariant-loop-after : goal.invariant-loop-after
invariant-loop-after l = LeavesNew l.name l.body l.rest

abbrev pub decreases-loop-after : goal.decreases-loop-after
decreases-loop-after l = length l.rest

use Rattle.btr_check_forms.proofs.Imports.{All, take, IsTold}
use Rattle.btr_check_forms.proofs.forms.are_told.Given as goal

abbrev pub invariant-loop-i : goal.invariant-loop-i
invariant-loop-i l = All (IsTold l.hash) (take l.i l.names)

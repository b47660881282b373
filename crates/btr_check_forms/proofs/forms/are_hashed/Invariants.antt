use Rattle.btr_check_forms.proofs.Imports.{All, take, IsHashed}
use Rattle.btr_check_forms.proofs.forms.are_hashed.Given as goal

abbrev pub invariant-loop-i : goal.invariant-loop-i
invariant-loop-i l = All (IsHashed l.hash) (take l.i l.entries)

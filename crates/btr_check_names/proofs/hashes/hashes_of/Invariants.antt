use Rattle.btr_check_names.proofs.Imports.{◌≡◌, take, hashes_from}
use Rattle.btr_check_names.proofs.hashes.hashes_of.Given as goal

abbrev pub invariant-loop-i : goal.invariant-loop-i
invariant-loop-i l = l.keys.items ≡ hashes_from 0 (take l.i l.list)

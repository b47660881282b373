use Rattle.btr_check_files.proofs.Imports.{◌≡◌, take, capped, entry_letters}
use Rattle.btr_check_files.proofs.counting.entry_letters.Given as goal

abbrev pub invariant-loop-i : goal.invariant-loop-i
invariant-loop-i l = l.letters ≡ capped (entry_letters (take l.i l.entries))

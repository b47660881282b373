use Rattle.fs_paths.proofs.Imports.{take, HasFirstPaths}
use Rattle.fs_paths.proofs.first_path.note_all.Given as goal

abbrev pub invariant-loop-i : goal.invariant-loop-i
invariant-loop-i l = HasFirstPaths l.places (take l.i l.found.items)

use Rattle.fs_paths.proofs.Imports.{◌≡◌, drop, path_cmp}
use Rattle.fs_paths.proofs.path_found.compare.Given as goal

abbrev pub invariant-loop-i : goal.invariant-loop-i
invariant-loop-i l = path_cmp (drop l.i l.a) (drop l.i l.b) ≡ path_cmp l.a l.b

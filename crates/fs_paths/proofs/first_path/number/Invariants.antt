use Rattle.fs_paths.proofs.Imports.{◌≡◌, map, numbered}
use Rattle.fs_paths.proofs.first_path.number.Given as goal

abbrev pub invariant-loop-each : goal.invariant-loop-each
invariant-loop-each l = l.list.items ≡ map (numbered l.fn.found.items) l.yielded

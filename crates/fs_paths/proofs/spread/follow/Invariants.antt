use Rattle.fs_paths.proofs.Imports.{◌≡◌, ◌++◌, map, take, get_or, PathFound, child}
use Rattle.fs_paths.proofs.spread.follow.Given as goal

abbrev pub invariant-loop-link : goal.invariant-loop-link
invariant-loop-link l = (d : PathFound) → l.found.items ≡ l.fn.found.items ++ map (child (get_or l.fn.found.items l.i d)) (take l.link-index l.link-items)

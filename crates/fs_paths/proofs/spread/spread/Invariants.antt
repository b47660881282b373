use Rattle.fs_paths.proofs.Imports.{◌+◌, ◌-◌, length}
use Rattle.fs_paths.proofs.Walks.{Walk}
use Rattle.fs_paths.proofs.spread.spread.Given as goal

abbrev pub invariant-loop-i : goal.invariant-loop-i
invariant-loop-i l = Walk l.links l.fn.root l.found.items l.i

abbrev pub decreases-loop-i : goal.decreases-loop-i
decreases-loop-i l = length l.links + 1 - l.i

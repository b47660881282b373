use Rattle.fs_paths.proofs.Imports.{◌+◌, ◌-◌, length, waiting}
use Rattle.fs_paths.proofs.Queues.{Queue}
use Rattle.fs_paths.proofs.reach.reach_sorted.Given as goal

abbrev pub invariant-loop-i : goal.invariant-loop-i
invariant-loop-i l = Queue l.links l.fn.root l.queue.keys l.i

abbrev pub decreases-loop-i : goal.decreases-loop-i
decreases-loop-i l = waiting l.links l.queue.keys + length l.queue.keys - l.i

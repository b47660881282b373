use Rattle.outside_mem.proofs.Imports.{◌≡◌, ◌+◌, ◌≤◌, length, take, written, calls_of}
use Rattle.outside_mem.proofs.crash.count_written.Given as goal

abbrev pub invariant-loop-k : goal.invariant-loop-k
invariant-loop-k l = record {
  in_range : l.count + l.k ≤ length l.calls;
  counts : l.count + length (written (calls_of (take l.k l.calls)) l.n) ≡ length (written (calls_of l.calls) l.n);
}

abbrev pub decreases-loop-k : goal.decreases-loop-k
decreases-loop-k l = l.k

use Rattle.outside_mem.proofs.Imports.{◌≡◌, ◌-◌, ◌<◌, ◌≤◌, [], length, take, slice_index_or, written, calls_of}
use Rattle.outside_mem.proofs.crash.nth_newest.Given as goal

abbrev pub invariant-loop-k : goal.invariant-loop-k
invariant-loop-k l = record {
  in_range : l.k ≤ length l.calls;
  more : l.left < length (written (calls_of (take l.k l.calls)) l.n);
  same : slice_index_or (written (calls_of (take l.k l.calls)) l.n) (length (written (calls_of (take l.k l.calls)) l.n) - 1 - l.left) []
      ≡ slice_index_or (written (calls_of l.calls) l.n) (length (written (calls_of l.calls) l.n) - 1 - l.newer) [];
}

abbrev pub decreases-loop-k : goal.decreases-loop-k
decreases-loop-k l = l.k

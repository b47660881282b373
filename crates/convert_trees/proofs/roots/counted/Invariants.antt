use Rattle.convert_trees.proofs.Imports.{◌≡◌, ◌≤◌, ◌*◌, take, Counted, lengths_of}
use Rattle.convert_trees.proofs.roots.counted.Given as goal

abbrev pub invariant-loop-i : goal.invariant-loop-i
invariant-loop-i l = record {
  size : l.counter.nodesize ≡ l.nodesize;
  bytes : l.counter.bytes ≤ 70000 * l.i;
  counted : Counted l.counter (lengths_of (take l.i l.list));
}

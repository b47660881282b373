use Rattle.btr_reader_walk.proofs.Imports.{◌≡◌, ◌≤◌, ◌+◌, ◌++◌, drop, length, map, reverse, vec_capacity, child_entry}
use Rattle.btr_reader_walk.proofs.node.push_children.Given as goal

abbrev pub invariant-loop-left : goal.invariant-loop-left
invariant-loop-left l = record {
  few : l.left ≤ length l.node;
  pushed : l.pending.items ≡ l.initial.pending.items ++ reverse (map (child_entry l.level) (drop l.left l.node));
  room : length l.pending.items + l.left ≡ length l.initial.pending.items + length l.node;
  capacity : vec_capacity l.pending ≡ vec_capacity l.initial.pending;
}

abbrev pub decreases-loop-left : goal.decreases-loop-left
decreases-loop-left l = l.left

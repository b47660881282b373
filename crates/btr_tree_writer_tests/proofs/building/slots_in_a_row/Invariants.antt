use Rattle.btr_tree_writer_tests.proofs.Imports.{◌≡◌, ◌≤◌, ◌+◌, ◌*◌, map, range_with_len}
use Rattle.btr_tree_writer_tests.proofs.building.slots_in_a_row.Given as goal

abbrev pub invariant-loop-k : goal.invariant-loop-k
invariant-loop-k l = record {
  within : l.k ≤ l.count;
  row : l.slots ≡ map (λ k. 65536 + 4096 * k) (range_with_len 0 l.k);
}

use Rattle.btr_tree_writer_tests.proofs.Imports.{◌≡◌, ◌*◌, ◌≤◌}
use Rattle.btr_tree_writer_tests.proofs.building.counted.Given as goal

abbrev pub invariant-loop : goal.invariant-loop
invariant-loop l = (l.tree.nodesize ≡ l.nodesize) × (l.tree.bytes ≤ 65536 * l.counter)

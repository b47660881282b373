use Rattle.btr_tree_writer_tests.proofs.Imports.{◌≡◌, ◌≤◌, length}
use Rattle.btr_tree_writer_tests.proofs.writing.addresses_elsewhere.Given as goal

abbrev pub invariant-loop-k : goal.invariant-loop-k
invariant-loop-k l = (l.k ≤ l.count) × (length l.slots ≡ l.k)

use Rattle.btr_tree_writer_tests.proofs.Imports.{◌≡◌, None, length}
use Rattle.btr_tree_writer_tests.proofs.streams.sample_disk.Given as goal

abbrev pub invariant-loop-b : goal.invariant-loop-b
invariant-loop-b l = (length l.disk.history.start ≡ 12288) × (l.disk.opened ≡ None)

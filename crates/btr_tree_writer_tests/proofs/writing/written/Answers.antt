use Rattle.btr_tree_writer_tests.proofs.Imports.{arith}
use Rattle.btr_tree_writer_tests.proofs.writing.written.Goals as goal

pub write_tree-requires-clause-in_range : goal.write_tree-requires-clause-in_range
write_tree-requires-clause-in_range g c = λ k d low. omega (arith, c.in_ok-slots.ensures.within k d low, c.requires.size, c.requires.few)

use Rattle.btr_tree_writer_tests.proofs.Imports.{arith}
use Rattle.btr_tree_writer_tests.proofs.writing.written_elsewhere.Goals as goal

pub write_tree_at-requires-clause-in_range : goal.write_tree_at-requires-clause-in_range
write_tree_at-requires-clause-in_range g c = rw c.mapped-slots.ensures (λ k d low. omega (arith, c.in_ok-offsets.ensures.within k d low, c.requires.size, c.requires.few))

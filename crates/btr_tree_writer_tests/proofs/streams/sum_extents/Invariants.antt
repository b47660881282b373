use Rattle.btr_tree_writer_tests.proofs.Imports.{FitsExtents}
use Rattle.btr_tree_writer_tests.proofs.streams.sum_extents.Given as goal

abbrev pub invariant-loop : goal.invariant-loop
invariant-loop l = FitsExtents l.stream l.pieces.items l.nodes

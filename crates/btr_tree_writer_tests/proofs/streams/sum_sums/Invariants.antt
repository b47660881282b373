use Rattle.btr_tree_writer_tests.proofs.Imports.{◌≡◌, ◌≤◌, false, FitsSums}
use Rattle.outside_mem.specs.Laws.{readable_len}
use Rattle.btr_tree_writer_tests.proofs.streams.sum_sums.Given as goal

abbrev pub invariant-loop : goal.invariant-loop
invariant-loop l = record {
  live : l.stream.spent ≡ false;
  fits : FitsSums l.stream l.pieces.items;
  size : 12288 ≤ readable_len l.disk;
}

use Rattle.btr_tree_writer_tests.proofs.Imports.{◌≡◌, false}
use Rattle.btr_tree_writer_tests.proofs.writing.has_items.Given as goal

abbrev pub invariant-loop-i : goal.invariant-loop-i
invariant-loop-i g l = record {
  fresh : l.walker.spent ≡ false;
  size : g.S.BlockSource.size l.src ≡ g.S.BlockSource.size l.initial.src;
}

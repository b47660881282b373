use Rattle.btr_tree_writer_tests.proofs.Imports.{◌≡◌, ◌+◌, ◌*◌, ◌<◌, length, AllPairs}
use Rattle.std.specs.Prelude.{All}
use Rattle.btr_tree_writer_tests.proofs.own_nodes.row.Given as goal

abbrev pub invariant-loop-i : goal.invariant-loop-i
invariant-loop-i l = record {
  long : length l.slots ≡ l.i;
  below : All (λ a. a < l.first + 4096 * l.i) l.slots;
  order : AllPairs (λ a b. a < b) l.slots;
}

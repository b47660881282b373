use Rattle.btr_tree_writer.proofs.Imports.{◌≡◌, take, drop}
use Rattle.btr_tree_writer.proofs.trees.rest_of.Given as goal

abbrev pub invariant-loop-slot : goal.invariant-loop-slot
invariant-loop-slot l = record {
  all : l.slot-items ≡ drop l.first l.slots;
  rest : l.rest ≡ take l.slot-index l.slot-items;
}

use Rattle.btr_tree_writer_tests.proofs.Imports.{◌≡◌, take, FS_TREE, nodes_at}
use Rattle.btr_tree_writer_tests.proofs.own_nodes.leaves.Given as goal

abbrev pub invariant-loop-address : goal.invariant-loop-address
invariant-loop-address l = l.nodes ≡ nodes_at FS_TREE 0 (take l.address-index l.slots)

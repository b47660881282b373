use Rattle.btr_tree_writer_tests.proofs.Imports.{◌≡◌, map, take, TreeNode}
use Rattle.btr_tree_writer_tests.proofs.streams.sample_nodes.Given as goal

abbrev pub invariant-loop-address : goal.invariant-loop-address
invariant-loop-address l = l.nodes ≡ map (λ t. let n : TreeNode = record { address = t.0; level = t.1; owner = t.2 } in n) (take l.address-index l.address-items)

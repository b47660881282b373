use Rattle.btr_tree_writer_tests.proofs.Imports.{◌≡◌, map, take}
use Rattle.space_items.specs.declared.node.TreeRoot.{TreeRoot}
use Rattle.btr_tree_writer_tests.proofs.lists.sample_roots.Given as goal

abbrev pub invariant-loop-tree : goal.invariant-loop-tree
invariant-loop-tree l = l.list ≡ map (λ t. let r : TreeRoot = record { tree = t.0; root = record { address = t.1; level = t.2; nodes = t.3 } } in r) (take l.tree-index l.tree-items)

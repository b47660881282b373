use Rattle.unit_plan.proofs.Imports.{sum_by, node_bound, tree_bytes}
use Rattle.std.specs.Prelude.{◌≡◌, ◌≤◌, ◌*◌, ◌^◌, take}
use Rattle.unit_plan.proofs.need.nodes_together.Given as goal

abbrev pub invariant-loop-tree : goal.invariant-loop-tree
invariant-loop-tree l = record {
  exact : l.nodes ≡ sum_by (λ t. node_bound (tree_bytes l.options.sums l.counts t) l.options.nodesize) (take l.tree-index l.trees);
  small : l.nodes ≤ 2 ^ 50 * l.tree-index;
}

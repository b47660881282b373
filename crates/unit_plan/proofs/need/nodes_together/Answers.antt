use Rattle.unit_plan.proofs.Imports.{◌∙◌, ℕ, List, ap, arith, take_all, sum_by, node_bound, tree_bytes}
use Rattle.unit_plan.specs.declared.tree.NewTree.{NewTree}
use Rattle.unit_plan.proofs.Lists.{sum_next}
use Rattle.unit_plan.proofs.need.nodes_together.Goals as goal

pub loop-tree-preserved : goal.loop-tree-preserved
loop-tree-preserved c =
    let before = c.loop-tree.invariant in
    let f : NewTree → ℕ = λ t. node_bound (tree_bytes c.args.options.now.sums c.args.counts.now t) c.args.options.now.nodesize in
    record {
      exact =
          sum_next f c.args.trees.now c.loop-tree.tree-index _ _ _ c.loop-tree-test.true before.exact
          (c.nodes_for-nodes.ensures.exact ∙ ap (λ (b : ℕ). node_bound b c.args.options.now.nodesize) c.tree_bytes.ensures.exact);
      small = omega (arith, before.small, c.nodes_for-nodes.ensures.small);
    }

pub returns-clause-exact : goal.returns-clause-exact
returns-clause-exact c =
    c.loop-tree.invariant.exact
    ∙ ap (λ (ts : List NewTree). sum_by (λ t. node_bound (tree_bytes c.args.options.now.sums c.args.counts.now t) c.args.options.now.nodesize) ts)
    (take_all c.loop-tree.tree-index c.args.trees.now c.loop-tree-test.false)

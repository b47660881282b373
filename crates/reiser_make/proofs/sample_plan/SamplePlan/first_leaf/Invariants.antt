use Rattle.reiser_make.proofs.Imports.{◌≡◌, ◌≤◌, ◌<◌, first_leaf, level_nodes}
use Rattle.reiser_make.proofs.sample_plan.SamplePlan.first_leaf.Given as goal

abbrev pub decreases-loop-level : goal.decreases-loop-level
decreases-loop-level l = l.level

abbrev pub invariant-loop-level : goal.invariant-loop-level
invariant-loop-level l = record {
  is : first_leaf l.self.leaf_count l.level l.node ≡ first_leaf l.self.leaf_count l.number l.m;
  low : 1 ≤ l.level;
  high : l.level ≤ l.number;
  node : l.node < level_nodes l.self.leaf_count l.level;
}

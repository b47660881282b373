use Rattle.reiser_make.proofs.Finding.{child_is}
use Rattle.reiser_make.proofs.sample_plan.SamplePlan.child.Goals as goal

pub returns-clause-child : goal.returns-clause-child
returns-clause-child c = (
  child_is c.args.self.now.sample c.args.level.now.number c.args.m c.args.self.now.leaf_count c.first_leaf.result c.in_ok-leaf.leaf.first c.node_place.result c.size_of.result
      c.args.self.now.counted c.first_leaf.ensures.leaf c.in_ok-leaf.ensures.found.first c.node_place.ensures.place c.size_of.ensures,
  c.in_ok-leaf.ensures.found.offset,
)

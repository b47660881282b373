use Rattle.reiser_make.proofs.Placed.{needed_is}
use Rattle.reiser_make.proofs.sample_plan.SamplePlan.needed.Goals as goal

pub returns : goal.returns
returns c = needed_is c.args.self.now.sample c.args.self.now.leaf_count c.node_place.result c.root.result c.args.self.now.counted c.root.ensures.level c.root.ensures.one c.node_place.ensures.place

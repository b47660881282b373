use Rattle.reiser_make.proofs.Counting.{leaves_begin}
use Rattle.reiser_make.proofs.inner.LeafWalk.new.Goals as goal

pub returns-clause-stands : goal.returns-clause-stands
returns-clause-stands c = leaves_begin c.args.plan.now.sample c.first.result c.first.ensures

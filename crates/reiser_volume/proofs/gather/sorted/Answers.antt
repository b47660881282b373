use Rattle.reiser_volume.proofs.Imports.{ascending}
use Rattle.reiser_volume.proofs.gather.sorted.Goals as goal

pub returns-clause-ascends : goal.returns-clause-ascends
returns-clause-ascends c = ascending c.sort.new.self.keys c.in_ok-sort.ensures.sorted c.sort.ensures.unique

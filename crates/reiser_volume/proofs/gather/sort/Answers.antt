use Rattle.reiser_volume.proofs.Imports.{keys, ascending}
use Rattle.reiser_volume.proofs.gather.sort.Goals as goal

pub returns-clause-ascends : goal.returns-clause-ascends
returns-clause-ascends c = ascending (keys c.sort_keys.new.self) c.in_ok-sort_keys.ensures.sorted c.sort_keys.ensures.unique

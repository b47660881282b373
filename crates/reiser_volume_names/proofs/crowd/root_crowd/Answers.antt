use Rattle.reiser_volume_names.proofs.Crowding.{root_counted}
use Rattle.reiser_volume_names.proofs.crowd.root_crowd.Goals as goal

pub returns : goal.returns
returns c = root_counted c.new-sums.result c.add.new.sums c.name_hash.result c.new-sums.ensures.empty c.name_hash.ensures c.in_ok-add.ensures.sums

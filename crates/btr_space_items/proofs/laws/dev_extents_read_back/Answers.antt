use Rattle.btr_space_items.proofs.Records.{dev_extents_read_back}
use Rattle.btr_space_items.proofs.laws.dev_extents_read_back.Goals as goal

pub returns : goal.returns
returns c = dev_extents_read_back

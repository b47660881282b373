use Rattle.btr_space_items.proofs.Records.{devices_read_back}
use Rattle.btr_space_items.proofs.laws.devices_read_back.Goals as goal

pub returns : goal.returns
returns c = devices_read_back

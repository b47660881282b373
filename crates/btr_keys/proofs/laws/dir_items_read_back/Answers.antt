use Rattle.btr_keys.proofs.Records.{dir_items_read_back}
use Rattle.btr_keys.proofs.laws.dir_items_read_back.Goals as goal

pub returns : goal.returns
returns c = dir_items_read_back

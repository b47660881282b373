use Rattle.btr_space_items.proofs.Records.{stripes_read_back}
use Rattle.btr_space_items.proofs.laws.stripes_read_back.Goals as goal

pub returns : goal.returns
returns c = stripes_read_back

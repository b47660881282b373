use Rattle.btr_space_items.proofs.Records.{extent_heads_read_back}
use Rattle.btr_space_items.proofs.laws.extent_heads_read_back.Goals as goal

pub returns : goal.returns
returns c = extent_heads_read_back

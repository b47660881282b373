use Rattle.btr_space_items.proofs.Records.{block_groups_read_back}
use Rattle.btr_space_items.proofs.laws.block_groups_read_back.Goals as goal

pub returns : goal.returns
returns c = block_groups_read_back

use Rattle.btr_space_items.proofs.Records.{root_refs_read_back}
use Rattle.btr_space_items.proofs.laws.root_refs_read_back.Goals as goal

pub returns : goal.returns
returns c = root_refs_read_back

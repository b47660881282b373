use Rattle.btr_space_items.proofs.Records.{chunks_read_back}
use Rattle.btr_space_items.proofs.laws.chunks_read_back.Goals as goal

pub returns : goal.returns
returns c = chunks_read_back

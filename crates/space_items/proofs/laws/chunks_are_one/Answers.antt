use Rattle.space_items.proofs.OneList.{chunks_one}
use Rattle.space_items.proofs.laws.chunks_are_one.Goals as goal

pub returns : goal.returns
returns c = chunks_one

use Rattle.reiser_bitmap.proofs.MoreLaws.{used_had}
use Rattle.reiser_bitmap.proofs.laws.used_blocks_are_had.Goals as goal

pub returns : goal.returns
returns c = used_had

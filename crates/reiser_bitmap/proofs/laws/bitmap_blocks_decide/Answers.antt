use Rattle.reiser_bitmap.proofs.MoreLaws.{bitmap_decided}
use Rattle.reiser_bitmap.proofs.laws.bitmap_blocks_decide.Goals as goal

pub returns : goal.returns
returns c = bitmap_decided

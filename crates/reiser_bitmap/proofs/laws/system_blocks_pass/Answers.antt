use Rattle.reiser_bitmap.proofs.MoreLaws.{system_pass}
use Rattle.reiser_bitmap.proofs.laws.system_blocks_pass.Goals as goal

pub returns : goal.returns
returns c = system_pass

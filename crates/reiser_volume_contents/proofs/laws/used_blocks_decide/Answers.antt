use Rattle.reiser_volume_contents.proofs.Same.{same_tree}
use Rattle.reiser_volume_contents.proofs.laws.used_blocks_decide.Goals as goal

pub returns : goal.returns
returns c = same_tree

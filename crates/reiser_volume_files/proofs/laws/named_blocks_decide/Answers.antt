use Rattle.reiser_volume_files.proofs.Deciding.{named_decide}
use Rattle.reiser_volume_files.proofs.laws.named_blocks_decide.Goals as goal

pub returns : goal.returns
returns c = named_decide

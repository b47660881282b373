use Rattle.reiser_volume_files.proofs.Sorts.{blocks_held}
use Rattle.reiser_volume_files.proofs.laws.blocks_are_held.Goals as goal

pub returns : goal.returns
returns c = blocks_held

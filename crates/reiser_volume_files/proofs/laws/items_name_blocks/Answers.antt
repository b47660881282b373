use Rattle.reiser_volume_files.proofs.Sorts.{items_name}
use Rattle.reiser_volume_files.proofs.laws.items_name_blocks.Goals as goal

pub returns : goal.returns
returns c = items_name

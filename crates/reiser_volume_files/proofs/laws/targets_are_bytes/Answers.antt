use Rattle.reiser_volume_files.proofs.Sorts.{target_is}
use Rattle.reiser_volume_files.proofs.laws.targets_are_bytes.Goals as goal

pub returns : goal.returns
returns c = target_is

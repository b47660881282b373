use Rattle.reiser_volume.proofs.Unchanged.{put_back_same}
use Rattle.reiser_volume.proofs.laws.put_back_is_same.Goals as goal

pub returns : goal.returns
returns c = put_back_same

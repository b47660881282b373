use Rattle.reiser_volume_files.proofs.Deciding.{apart_follow}
use Rattle.reiser_volume_files.proofs.laws.apart_items_follow.Goals as goal

pub returns : goal.returns
returns c = apart_follow

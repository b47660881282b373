use Rattle.free_space.proofs.Telling.{free_items_tell}
use Rattle.free_space.proofs.laws.free_items_tell.Goals as goal

pub returns : goal.returns
returns c = free_items_tell

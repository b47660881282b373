use Rattle.extent_pieces.proofs.Apart.{plans_have_room}
use Rattle.extent_pieces.proofs.laws.plans_have_room.Goals as goal

pub returns : goal.returns
returns c = plans_have_room

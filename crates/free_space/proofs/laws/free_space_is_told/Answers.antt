use Rattle.free_space.proofs.Told.{free_space_is_told}
use Rattle.free_space.proofs.laws.free_space_is_told.Goals as goal

pub returns : goal.returns
returns c = free_space_is_told

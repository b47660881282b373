use Rattle.free_space.proofs.Infos.{free_infos_read_back}
use Rattle.free_space.proofs.laws.free_infos_read_back.Goals as goal

pub returns : goal.returns
returns c = free_infos_read_back

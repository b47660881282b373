use Rattle.super_turn.proofs.Backs.{half_turned}
use Rattle.super_turn.proofs.laws.half_turned_is_put_back.Goals as goal

pub returns : goal.returns
returns c = half_turned

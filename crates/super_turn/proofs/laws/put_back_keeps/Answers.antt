use Rattle.super_turn.proofs.Backs.{keeps}
use Rattle.super_turn.proofs.laws.put_back_keeps.Goals as goal

pub returns : goal.returns
returns c = keeps

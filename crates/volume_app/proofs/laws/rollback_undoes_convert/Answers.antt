use Rattle.volume_app.proofs.Undone.{rollback_undoes_convert}
use Rattle.volume_app.proofs.laws.rollback_undoes_convert.Goals as goal

pub returns : goal.returns
returns c = rollback_undoes_convert

use Rattle.trial_core.proofs.Tried.{kept}
use Rattle.trial_core.proofs.laws.tries_keep.Goals as goal

pub returns : goal.returns
returns c = kept c.converted_volumes_go_back.ensures c.rollback_keeps.ensures c.samples_are_as_described.ensures

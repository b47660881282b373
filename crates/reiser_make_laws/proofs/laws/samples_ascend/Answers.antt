use Rattle.reiser_make_laws.proofs.Ascending.{ascend}
use Rattle.reiser_make_laws.proofs.laws.samples_ascend.Goals as goal

pub returns : goal.returns
returns c = ascend

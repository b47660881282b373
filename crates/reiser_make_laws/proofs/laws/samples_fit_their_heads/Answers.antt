use Rattle.reiser_make_laws.proofs.Kept.{fit_heads}
use Rattle.reiser_make_laws.proofs.laws.samples_fit_their_heads.Goals as goal

pub returns : goal.returns
returns c = fit_heads

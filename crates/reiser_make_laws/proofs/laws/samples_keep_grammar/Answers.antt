use Rattle.reiser_make_laws.proofs.Kept.{keeps_grammar}
use Rattle.reiser_make_laws.proofs.laws.samples_keep_grammar.Goals as goal

pub returns : goal.returns
returns c = keeps_grammar

use Rattle.extent_pieces.proofs.Small.{counts_small}
use Rattle.extent_pieces.proofs.laws.counts_are_small.Goals as goal

pub returns : goal.returns
returns c = λ inline image keys visible links accepted are are_links. counts_small image accepted keys are inline visible links are_links

use Rattle.extent_pieces.proofs.Maximal.{kept_are_maximal}
use Rattle.extent_pieces.proofs.laws.kept_pieces_are_maximal.Goals as goal

pub returns : goal.returns
returns c = kept_are_maximal

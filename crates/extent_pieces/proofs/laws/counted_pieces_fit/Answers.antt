use Rattle.extent_pieces.proofs.Fitting.{counted_pieces_fit}
use Rattle.extent_pieces.proofs.laws.counted_pieces_fit.Goals as goal

pub returns : goal.returns
returns c = counted_pieces_fit

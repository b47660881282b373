use Rattle.extent_pieces.proofs.Covering.{pieces_cover_used}
use Rattle.extent_pieces.proofs.laws.pieces_cover_used.Goals as goal

pub returns : goal.returns
returns c = pieces_cover_used

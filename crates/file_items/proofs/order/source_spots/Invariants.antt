use Rattle.file_items.proofs.Imports.{filter, is_some, take, source_block, TellsPieces}
use Rattle.file_items.proofs.order.source_spots.Given as goal

abbrev pub invariant-loop-number : goal.invariant-loop-number
invariant-loop-number g l = TellsPieces (g.P.PieceList.pieces l.pieces) source_block l.spots.items (filter (λ p. is_some p.from) (take l.number (g.P.PieceList.pieces l.pieces)))

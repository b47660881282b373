use Rattle.file_items.proofs.Imports.{filter, is_some, take, file_block, TellsPieces}
use Rattle.file_items.proofs.order.block_spots.Given as goal

abbrev pub invariant-loop-number : goal.invariant-loop-number
invariant-loop-number g l = TellsPieces (g.P.PieceList.pieces l.pieces) file_block l.spots.items (filter (λ p. is_some p.owner) (take l.number (g.P.PieceList.pieces l.pieces)))

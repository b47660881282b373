use Rattle.file_items.proofs.Imports.{take, owner_inode, by_block, TellsPieces}
use Rattle.file_items.proofs.order.owner_spots.Given as goal

abbrev pub invariant-loop-i : goal.invariant-loop-i
invariant-loop-i g l = TellsPieces (g.P.PieceList.pieces l.pieces) owner_inode l.spots.items (take l.i (by_block (g.P.PieceList.pieces l.pieces)))

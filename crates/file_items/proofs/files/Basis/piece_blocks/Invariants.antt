use Rattle.file_items.proofs.Imports.{◌≡◌, sum_by, take, capped, pieces_of}
use Rattle.file_items.proofs.files.Basis.piece_blocks.Given as goal

abbrev pub invariant-loop-i : goal.invariant-loop-i
invariant-loop-i g l = l.blocks ≡ capped (sum_by (λ p. p.count) (take l.i (pieces_of (g.P.PieceList.pieces l.pieces) l.ino)))

use Rattle.file_items.proofs.Imports.{◌≡◌, filter, is_some, sum_by, take, capped}
use Rattle.file_items.proofs.image.image_blocks.Given as goal

abbrev pub invariant-loop-i : goal.invariant-loop-i
invariant-loop-i g l = l.blocks ≡ capped (sum_by (λ p. p.count) (filter (λ p. is_some p.from) (take l.i (g.P.PieceList.pieces l.pieces))))

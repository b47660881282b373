use Rattle.extent_pieces.proofs.Imports.{◌≡◌, take, sum_by, capped}
use Rattle.extent_pieces.proofs.counts.block_count.Given as goal

abbrev pub invariant-loop-piece : goal.invariant-loop-piece
invariant-loop-piece l = l.count ≡ capped (sum_by (λ p. p.count) (take l.piece-index l.items))

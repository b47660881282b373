use Rattle.space_items.proofs.Imports.{◌≡◌, ◌+◌, ◌-◌, ◌*◌, length, take, LieBefore}
use Rattle.space_items.proofs.Counting.{counted}
use Rattle.space_items.proofs.groups.count_pieces.Given as goal

abbrev pub invariant-loop-next : goal.invariant-loop-next
invariant-loop-next g l = record {
  chunk : l.group.chunk ≡ l.initial.group.chunk;
  used : l.group.used ≡ counted (λ p. 4096 * p.place) (λ p. 4096 * p.count) (4096 * l.initial.group.chunk.start) (4096 * (l.initial.group.chunk.start + l.initial.group.chunk.length)) (take l.next (g.P.PieceList.pieces l.pieces));
  before : LieBefore (λ p. 4096 * p.place) (4096 * (l.initial.group.chunk.start + l.initial.group.chunk.length)) (g.P.PieceList.pieces l.pieces) l.next;
}

abbrev pub decreases-loop-next : goal.decreases-loop-next
decreases-loop-next g l = length (g.P.PieceList.pieces l.pieces) - l.next

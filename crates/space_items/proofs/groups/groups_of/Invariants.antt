use Rattle.space_items.proofs.Imports.{◌≡◌, ◌*◌, Some, map, take, slice_get, PlannedChunk, LieBefore, group_of}
use Rattle.space_items.proofs.groups.groups_of.Given as goal

abbrev pub invariant-loop-i : goal.invariant-loop-i
invariant-loop-i g l = record {
  groups : l.groups ≡ map (group_of (g.P.PieceList.pieces l.pieces) l.nodes l.nodesize) (take l.i l.chunks);
  piece : (c : PlannedChunk) → slice_get l.chunks l.i ≡ Some c → LieBefore (λ p. 4096 * p.place) (4096 * c.start) (g.P.PieceList.pieces l.pieces) l.piece;
  node : (c : PlannedChunk) → slice_get l.chunks l.i ≡ Some c → LieBefore (λ n. n.address) (4096 * c.start) l.nodes l.node;
}

use Rattle.space_items.proofs.Imports.{length, extent_items, FitsExtents, extents_ahead}
use Rattle.space_items.proofs.ChunksExist.{the_chunks}
use Rattle.space_items.proofs.Tallying.{IsTallied}
use Rattle.space_items.proofs.own_count.counted.Given as goal

abbrev pub invariant-loop-counter : goal.invariant-loop-counter
invariant-loop-counter g l = record {
  fits : FitsExtents l.stream (g.P.PieceList.pieces l.pieces) l.nodes;
  tallied : IsTallied l.nodesize (extent_items (the_chunks l.plan l.blocks) (g.P.PieceList.pieces l.pieces) l.nodes l.nodesize) (extents_ahead l.stream (g.P.PieceList.pieces l.pieces) l.nodes) l.counter;
}

abbrev pub decreases-loop-counter : goal.decreases-loop-counter
decreases-loop-counter g l = length (extents_ahead l.stream (g.P.PieceList.pieces l.pieces) l.nodes)

use Rattle.space_items.proofs.Imports.{◌-◌, own_bound}
use Rattle.space_items.proofs.ChunksExist.{the_chunks}
use Rattle.space_items.proofs.Describing.{IsCounting}
use Rattle.space_items.proofs.own_count.own_nodes.Given as goal

abbrev pub invariant-loop-nodes : goal.invariant-loop-nodes
invariant-loop-nodes g l = IsCounting (the_chunks l.plan l.blocks) (g.P.PieceList.pieces l.pieces) l.others l.rest l.nodesize l.count

abbrev pub decreases-loop-nodes : goal.decreases-loop-nodes
decreases-loop-nodes g l = own_bound (the_chunks l.plan l.blocks) (g.P.PieceList.pieces l.pieces) l.others l.nodesize - l.count

-- What holds of the bound of the extent tree's own nodes.
use Rattle.std.specs.Prelude.{◌+◌, ◌≤◌, List, length}
use Rattle.btr_tree.specs.btr_node.NodeSize.{IsNodeSize}
use Rattle.unit_plan.specs.Needed.{chunk_bound, chunk_nodes, extent_nodes, other_nodes}
use Rattle.unit_plan.specs.declared.chunk.PlannedChunk.{PlannedChunk}
use Rattle.unit_plan.specs.declared.counts.Counts.{Counts}
use Rattle.unit_plan.specs.convert_options.declared.options.Options.{Options}
use Rattle.unit_plan.specs.declared.piece.Piece.{Piece}
use Rattle.space_items.specs.Own.{own_bound}
use Rattle.space_items.specs.declared.node.TreeNode.{TreeNode}

-- the needed space was counted with no fewer nodes than the bound of the extent tree's own nodes has
abbrev pub OwnNodesAreNeeded : Type 0
OwnNodesAreNeeded =
    (o : Options) (c : Counts) (chunks : List PlannedChunk) (pieces : List Piece) (others : List TreeNode) → IsNodeSize o.nodesize → length pieces ≤ c.pieces → length chunks ≤ chunk_bound c.runs c.blocks
    → length others ≤ other_nodes o c + chunk_nodes o c → own_bound chunks pieces others o.nodesize ≤ extent_nodes o c

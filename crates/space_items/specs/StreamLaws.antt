-- What holds of the items of the extent tree and of the checksum tree.
use Rattle.std.specs.Prelude.{ℕ, ◌+◌, ◌≤◌, List, length, All}
use Rattle.btr_tree.specs.outside.History.{Image}
use Rattle.btr_tree.specs.btr_node.Leaf.{Item, keys_of}
use Rattle.btr_tree.specs.btr_node.Order.{Ascends}
use Rattle.btr_tree.specs.csum_kinds.declared.kind.SumKind.{SumKind}
use Rattle.unit_plan.specs.Chunks.{AreChunks}
use Rattle.unit_plan.specs.declared.chunk.PlannedChunk.{PlannedChunk}
use Rattle.unit_plan.specs.declared.piece.Piece.{Piece}
use Rattle.unit_plan.specs.declared.plan.Plan.{Plan}
use Rattle.space_items.specs.Extents.{extent_items}
use Rattle.space_items.specs.Laws.{FitTree}
use Rattle.space_items.specs.Nodes.{AreNodes}
use Rattle.space_items.specs.Stream.{ArePieces}
use Rattle.space_items.specs.Sums.{sum_items}
use Rattle.space_items.specs.declared.node.TreeNode.{TreeNode}

-- of the extent tree's items a tree can be made
abbrev pub ExtentItemsFit : Type 0
ExtentItemsFit =
    (plan : Plan) (blocks : ℕ) (chunks : List PlannedChunk) (pieces : List Piece) (nodes : List TreeNode) (nodesize : ℕ) → AreChunks plan blocks chunks → ArePieces pieces → AreNodes nodes
    → FitTree (extent_items chunks pieces nodes nodesize)

-- Items of which a tree can be made, though some are longer: their keys ascend, and each fits into a leaf of the smallest
-- nodes, behind a head of 101 bytes and with one of 25 bytes of its own.
pub record FitLeaves (items : List Item) : Type 0 where
  pub ascend : Ascends (keys_of items)
  pub short : All (λ i. length i.1 + 126 ≤ 4096) items

-- the checksum tree's are such items
abbrev pub SumItemsFit : Type 0
SumItemsFit = (sums : SumKind) (image : Image) (pieces : List Piece) → ArePieces pieces → FitLeaves (sum_items sums image pieces)

-- How many nodes the extent tree has. It has an extent for each of them, so their number describes itself.
use Rattle.std.specs.Prelude.{◌≡◌, ◌≢◌, ◌<◌, ℕ, ◌+◌, ◌*◌, List, length, take}
use Rattle.btr_space_items.specs.btrfs_format.declared.object.TheConstants.{EXTENT_TREE}
use Rattle.unit_plan.specs.declared.item_bytes.TheConstants.{BLOCK_GROUP_BYTES, EXTENT_BYTES, NODE_BYTES}
use Rattle.btr_tree.specs.Counting.{tree_nodes, node_bound}
use Rattle.btr_tree.specs.Roots.{lengths_of}
use Rattle.unit_plan.specs.declared.chunk.PlannedChunk.{PlannedChunk}
use Rattle.unit_plan.specs.declared.piece.Piece.{Piece}
use Rattle.space_items.specs.declared.node.TreeNode.{TreeNode}
use Rattle.space_items.specs.Extents.{extent_items}
use Rattle.space_items.specs.Nodes.{merged_nodes, nodes_at, nodes_of_tree}

-- nodes of the extent tree at the first x slots; how long their items are goes by no level
abbrev pub own_at : List ℕ → ℕ → List TreeNode
own_at slots x = nodes_at EXTENT_TREE 0 (take x slots)

-- the lengths of the items of the extent tree that has x nodes of its own
abbrev pub own_lengths : List PlannedChunk → List Piece → List TreeNode → List ℕ → ℕ → ℕ → List ℕ
own_lengths chunks pieces others slots nodesize x = lengths_of (extent_items chunks pieces (merged_nodes others (own_at slots x)) nodesize)

-- how many nodes it takes
abbrev pub nodes_with : List PlannedChunk → List Piece → List TreeNode → List ℕ → ℕ → ℕ → ℕ
nodes_with chunks pieces others slots nodesize x = tree_nodes nodesize (own_lengths chunks pieces others slots nodesize x)

-- the least number that describes itself
pub record IsOwnCount (chunks : List PlannedChunk) (pieces : List Piece) (others : List TreeNode) (slots : List ℕ) (nodesize x : ℕ) : Type 0 where
  pub same : nodes_with chunks pieces others slots nodesize x ≡ x
  pub least : (y : ℕ) → y < x → nodes_with chunks pieces others slots nodesize y ≢ y

-- the bytes that the extents of pieces and other nodes and the block groups take at most
abbrev pub extent_bytes : ℕ → ℕ → ℕ → ℕ
extent_bytes pieces chunks nodes = EXTENT_BYTES * pieces + BLOCK_GROUP_BYTES * chunks + NODE_BYTES * nodes

-- a bound of that number
abbrev pub own_bound : List PlannedChunk → List Piece → List TreeNode → ℕ → ℕ
own_bound chunks pieces others nodesize = 2 * node_bound (extent_bytes (length pieces) (length chunks) (length others)) nodesize + 16

-- all nodes: the others, and those of the extent tree, which has so many
abbrev pub nodes_with_own : List PlannedChunk → List Piece → List TreeNode → List ℕ → ℕ → ℕ → List TreeNode
nodes_with_own chunks pieces others slots nodesize x =
    merged_nodes others (nodes_of_tree EXTENT_TREE nodesize (own_lengths chunks pieces others slots nodesize x) slots)

-- With these nodes the items of the extent tree make a tree whose own nodes are just those among them.
pub record DescribesItself (chunks : List PlannedChunk) (pieces : List Piece) (others : List TreeNode) (slots : List ℕ) (nodesize x : ℕ) (all : List TreeNode) : Type 0 where
  pub nodes : all ≡ merged_nodes others (nodes_of_tree EXTENT_TREE nodesize (lengths_of (extent_items chunks pieces all nodesize)) slots)
  pub count : tree_nodes nodesize (lengths_of (extent_items chunks pieces all nodesize)) ≡ x

-- the number describes itself whatever the levels of the nodes are
abbrev pub OwnNodesStay : Type 0
OwnNodesStay =
    (chunks : List PlannedChunk) (pieces : List Piece) (others : List TreeNode) (slots : List ℕ) (nodesize x : ℕ) → IsOwnCount chunks pieces others slots nodesize x
    → DescribesItself chunks pieces others slots nodesize x (nodes_with_own chunks pieces others slots nodesize x)

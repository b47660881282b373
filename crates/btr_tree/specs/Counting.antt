-- What is known of a tree from the lengths of its items alone.
use Rattle.std.specs.Prelude.{◌≡◌, ℕ, ◌+◌, ◌-◌, ◌*◌, ◌/◌, ◌≤◌, ◌<◌, ◌^◌, List, [], length, slice_index, slice_index_or}
use Rattle.std.specs.List.{sum, sum_by}
use Rattle.std.specs.Int.{div_ceil}
use Rattle.btr_node.specs.NodeSize.{IsNodeSize}
use Rattle.btr_tree.specs.Packing.{capacity, weight, packed_leaves, tree_levels}

-- What is kept of the items of a tree: the size of its nodes, how many leaves there are, how many bytes the last of these
-- holds, and how many all of them hold.
pub record Tally : Type 0 where
  pub nodesize : ℕ
  pub leaves : ℕ
  pub fill : ℕ
  pub bytes : ℕ

-- the bytes that items of these lengths take in leaves
abbrev pub bytes_of : List ℕ → ℕ
bytes_of lengths = sum_by weight lengths

-- the last of some groups
abbrev pub last_of : List (List ℕ) → List ℕ
last_of groups = slice_index_or groups (length groups - 1) []

-- the tally is that of items of these lengths
pub record Counted (tally : Tally) (lengths : List ℕ) : Type 0 where
  pub count : tally.leaves ≡ length (packed_leaves tally.nodesize lengths)
  pub begun : tally.fill ≡ bytes_of (last_of (packed_leaves tally.nodesize lengths))
  pub total : tally.bytes ≡ bytes_of lengths

-- how many nodes the tree has, by the number of its leaves
abbrev pub nodes_above : ℕ → ℕ → ℕ
nodes_above nodesize packed_leaves = sum (tree_levels nodesize packed_leaves)

-- how many nodes a tree of items of these lengths has
abbrev pub tree_nodes : ℕ → List ℕ → ℕ
tree_nodes nodesize lengths = nodes_above nodesize (length (packed_leaves nodesize lengths))

-- how many of them are of this level, 0 for leaves
abbrev pub nodes_of_level : ℕ → List ℕ → ℕ → ℕ
nodes_of_level nodesize lengths level = slice_index (tree_levels nodesize (length (packed_leaves nodesize lengths))) level

-- No tree of items that take so many bytes has more leaves. Two neighbours hold more than a leaf's room together, since
-- the first item of the second did not fit into the first.
abbrev pub leaf_bound : ℕ → ℕ → ℕ
leaf_bound bytes nodesize = 2 * bytes / capacity nodesize + 1

-- nor more nodes
abbrev pub node_bound : ℕ → ℕ → ℕ
node_bound bytes nodesize = leaf_bound bytes nodesize + div_ceil (leaf_bound bytes nodesize) 64 + 8

-- What holds of each tally that comes about by adding items that fit.
pub record IsTally (tally : Tally) : Type 0 where
  pub size : IsNodeSize tally.nodesize
  pub some : 1 ≤ tally.leaves
  pub fits : tally.fill ≤ capacity tally.nodesize
  pub halves : (tally.leaves - 1) * capacity tally.nodesize + tally.fill ≤ 2 * tally.bytes
  pub small : tally.bytes < 2 ^ 60

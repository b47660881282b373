-- Nodes of trees that were written.
use Rattle.std.specs.Prelude.{◌<◌, ◌≤◌, ℕ, ◌+◌, ◌^◌, true, List, length, map, AllPairs}
use Rattle.std.specs.Ordering.{nat_cmp}
use Rattle.std.specs.Set.{sorted_merge}
use Rattle.btr_tree.specs.btr_node.NodeSize.{IsNodeSize}
use Rattle.btr_tree.specs.Counting.{Tally, Counted, tree_nodes}
use Rattle.btr_tree.specs.Packing.{packed_leaves, tree_levels}
use Rattle.btr_tree.specs.Roots.{level_pointers}
use Rattle.space_items.specs.declared.node.TreeNode.{TreeNode}

-- nodes of one level of a tree, at these slots
abbrev pub nodes_at : ℕ → ℕ → List ℕ → List TreeNode
nodes_at owner level slots = map (λ a. record { address = a; level = level; owner = owner }) slots

-- The nodes of a tree whose items have these lengths, at the slots in their order: leaves first, and each level behind those
-- below it.
abbrev pub nodes_of_tree : ℕ → ℕ → List ℕ → List ℕ → List TreeNode
nodes_of_tree owner nodesize lengths slots =
    map (λ p. record { address = p.address; level = p.level; owner = owner }) (level_pointers 1 0 0 slots (tree_levels nodesize (length (packed_leaves nodesize lengths))))

-- the nodes of two lists that ascend by address, ascending
abbrev pub merged_nodes : List TreeNode → List TreeNode → List TreeNode
merged_nodes nodes others = sorted_merge (λ m n. nat_cmp m.address n.address) true nodes others

-- nodes ascend by address, and no sum of their sizes is too large
pub record AreNodes (nodes : List TreeNode) : Type 0 where
  pub ascending : AllPairs (λ m n. m.address < n.address) nodes
  pub few : length nodes < 2 ^ 44

-- there are slots from this one on for all nodes of the tree whose items were counted
pub record HasSlots (tally : Tally) (first : ℕ) (slots : List ℕ) : Type 0 where
  pub size : IsNodeSize tally.nodesize
  pub lengths : List ℕ
  pub counted : Counted tally lengths
  pub enough : first + tree_nodes tally.nodesize lengths ≤ length slots

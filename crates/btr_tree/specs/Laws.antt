-- What packing is, what a tree that was written looks like, and what keeps it.
use Rattle.std.specs.Prelude.{◌≡◌, ℕ, ◌+◌, ◌*◌, ◌/◌, ◌^◌, ◌≤◌, ◌<◌, List, [], ◌∷◌, ◌++◌, Some, length, take, slice_index, slice_index_or}
use Rattle.std.specs.List.{All, concat}
use Rattle.btr_node.specs.outside.History.{Image, block_at}
use Rattle.btr_node.specs.Leaf.{Item}
use Rattle.btr_node.specs.NodeSize.{IsNodeSize}
use Rattle.btr_reader_walk.specs.declared.map.MapRange.{MapRange}
use Rattle.btr_reader_walk.specs.declared.tree.Form.{Form}
use Rattle.btr_reader_walk.specs.declared.tree.NodePointer.{NodePointer}
use Rattle.btr_reader_walk.specs.Events.{walk_events, nodes_in}
use Rattle.btr_reader_walk.specs.Map.{place, identity}
use Rattle.btr_reader_walk.specs.Tree.{tree_items}
use Rattle.btr_tree.specs.Builder.{Building, Stands, pushed_on}
use Rattle.btr_tree.specs.Counting.{bytes_of, tree_nodes}
use Rattle.btr_tree.specs.Packing.{weight, packed}
use Rattle.btr_tree.specs.Whole.{IsWholeTree, HasLinuxForm}
use Rattle.btr_tree.specs.Writing.{IsInSlots}

-- The groups are the lengths in their order. Each fits, no group but the first is empty, and the first of each later group
-- had no room in the one before it.
pub record IsPacking (room : ℕ) (lengths : List ℕ) (groups : List (List ℕ)) : Type 0 where
  pub whole : concat groups ≡ lengths
  pub some : 1 ≤ length groups
  pub fit : All (λ group. bytes_of group ≤ room) groups
  pub begun : (k : ℕ) → 0 < k → k < length groups → 1 ≤ length (slice_index_or groups k [])
  pub full : (k : ℕ) → k + 1 < length groups → room < bytes_of (slice_index_or groups k []) + weight (slice_index (slice_index_or groups (k + 1) []) 0)

-- items that fit at all are packed so
abbrev pub PackingIsFull : Type 0
PackingIsFull = (room : ℕ) (lengths : List ℕ) → All (λ n. weight n ≤ room) lengths → IsPacking room lengths (packed weight room lengths)

-- an item more, wherever it is put in, never makes fewer nodes
abbrev pub NodesNeverFall : Type 0
NodesNeverFall =
    (nodesize : ℕ) (before after : List ℕ) (n : ℕ) → IsNodeSize nodesize → tree_nodes nodesize (before ++ after) ≤ tree_nodes nodesize (before ++ n ∷ after)

-- the map gives the address of each block of a node itself
abbrev pub GivesItself : List MapRange → ℕ → ℕ → Type 0
GivesItself ranges nodesize a = (j : ℕ) → j < nodesize / 4096 → (a + 4096 * j < 2 ^ 64) × (place ranges (a + 4096 * j) ≡ Some (a + 4096 * j))

-- the tree is the same by both maps
pub record IsSameBy (image : Image) (ranges others : List MapRange) (form : Form) (root : NodePointer) (owner : ℕ) : Type 0 where
  pub events : walk_events image ranges form root owner ≡ walk_events image others form root owner
  pub items : tree_items image ranges form root owner ≡ tree_items image others form root owner
  -- where it is sound and was written whole by the others, so it is by these
  pub whole : (read : List Item) (chunk_tree : List ℕ) → tree_items image others form root owner ≡ Some read
      → IsWholeTree image others form owner chunk_tree root → IsWholeTree image ranges form owner chunk_tree root

-- A tree that is read by the map that gives each address itself is the same by each map that gives the addresses of its
-- nodes themselves.
abbrev pub MapsAgree : Type 0
MapsAgree =
    (image : Image) (ranges : List MapRange) (form : Form) (root : NodePointer) (owner : ℕ)
    → All (λ p. GivesItself ranges form.nodesize p.address) (nodes_in (walk_events image identity form root owner))
    → IsSameBy image ranges identity form root owner

-- Each node of a tree that was written whole has the flag "written" and today's revision; the data of a leaf are packed, and
-- the key beside each pointer is the first key of the child.
abbrev pub NodesHaveLinuxForm : Type 0
NodesHaveLinuxForm =
    (image : Image) (ranges : List MapRange) (form : Form) (owner : ℕ) (chunk_tree : List ℕ) (root : NodePointer)
    → IsWholeTree image ranges form owner chunk_tree root
    → All (HasLinuxForm image ranges form.nodesize) (nodes_in (walk_events image ranges form root owner))

-- Whether a builder stands on a disk, and which items were pushed, depends on no block but those of the nodes that were
-- written.
abbrev pub StandsBySlots : Type 0
StandsBySlots =
    (b : Building) (image other : Image)
    → ((n : ℕ) → IsInSlots b.made.form.nodesize (take b.made.written b.made.offsets) n → block_at other n ≡ block_at image n)
    → Stands b image → Stands b other × (pushed_on b other ≡ pushed_on b image)

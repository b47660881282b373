-- A tree that stands on a volume: which items it has, and where its nodes lie.
use Rattle.std.specs.Prelude.{◌≡◌, ℕ, ◌+◌, ◌≤◌, List, length, take, All, Some}
use Rattle.std.specs.List.Sorted.{IsPermutation}
use Rattle.btr_tree.specs.outside.History.{Image, block_at}
use Rattle.btr_tree.specs.btr_node.Leaf.{Item, keys_of}
use Rattle.btr_tree.specs.btr_node.Order.{Ascends}
use Rattle.btr_tree.specs.Building.{MapsSlots, pointer_to}
use Rattle.btr_tree.specs.Counting.{tree_nodes}
use Rattle.btr_tree.specs.Packing.{packed_leaves, tree_levels}
use Rattle.btr_tree.specs.Roots.{level_pointers, lengths_of}
use Rattle.btr_tree.specs.Whole.{IsWholeTree}
use Rattle.btr_tree.specs.Writing.{IsInSlots}
use Rattle.btr_tree.specs.declared.climb.Root.{Root}
use Rattle.btr_tree.specs.btr_reader_walk.Events.{nodes_in, walk_events}
use Rattle.btr_tree.specs.btr_reader_walk.Map.{identity}
use Rattle.btr_tree.specs.btr_reader_walk.Tree.{tree_items}
use Rattle.btr_tree.specs.btr_reader_walk.declared.map.MapRange.{MapRange}
use Rattle.btr_tree.specs.btr_reader_walk.declared.tree.Form.{Form}
use Rattle.btr_tree.specs.btr_reader_walk.declared.tree.NodePointer.{NodePointer}
use Rattle.btr_tree_writer.specs.declared.form.NodeForm.{NodeForm}

-- how the nodes are read
abbrev pub read_form : NodeForm → Form
read_form form = record { fsid = form.ids.fsid; nodesize = form.nodesize; sums = form.sums }

-- what leads to the root of a tree of this generation
abbrev pub pointer_of_root : ℕ → Root → NodePointer
pointer_of_root generation root = pointer_to generation root.level root.address

-- and of one that transaction 1 made
abbrev pub pointer_to_root : Root → NodePointer
pointer_to_root root = pointer_of_root 1 root

-- A tree with this number, generation and items stands on a disk, by a map of addresses. A walk of it meets the nodes that
-- packing the items gives, each once: the leaves at the first slots, and each level behind those below it.
pub record TreeStandsBy (image : Image) (ranges : List MapRange) (form : Form) (generation owner : ℕ) (slots : List ℕ) (items : List Item) (root : Root) : Type 0 where
  pub items_are : tree_items image ranges form (pointer_of_root generation root) owner ≡ Some items
  pub nodes_are : IsPermutation (nodes_in (walk_events image ranges form (pointer_of_root generation root) owner)) (level_pointers generation 0 0 slots (tree_levels form.nodesize (length (packed_leaves form.nodesize (lengths_of items)))))
  pub count : root.nodes ≡ tree_nodes form.nodesize (lengths_of items)
  pub few : root.nodes ≤ length slots
  -- each node is exactly the bytes of its draft, with the identifier of one chunk tree
  pub whole : (chunk_tree : List ℕ) × IsWholeTree image ranges form owner chunk_tree (pointer_of_root generation root)

-- The same of a tree that transaction 1 made, on a volume that has each address at the offset of the same number.
abbrev pub TreeStands : Image → Form → ℕ → List ℕ → List Item → Root → Type 0
TreeStands image form owner slots items root = TreeStandsBy image identity form 1 owner slots items root

-- The nodes of a tree have the identifiers of this form and this generation, and are exactly the bytes of their drafts.
abbrev pub IsWrittenBy : Image → List MapRange → NodeForm → ℕ → ℕ → Root → Type 0
IsWrittenBy image ranges form generation owner root = IsWholeTree image ranges (read_form form) owner form.ids.chunk_tree (pointer_of_root generation root)

-- the same of one that transaction 1 made there
abbrev pub IsWrittenWith : Image → NodeForm → ℕ → Root → Type 0
IsWrittenWith image form owner root = IsWrittenBy image identity form 1 owner root

-- Items of which a tree can be written: their keys ascend, each fits into a leaf, and there are slots for the nodes.
pub record AreWritable (nodesize : ℕ) (slots : List ℕ) (items : List Item) : Type 0 where
  pub order : Ascends (keys_of items)
  pub short : All (λ i. length i.1 + 126 ≤ nodesize) items
  pub few : tree_nodes nodesize (lengths_of items) ≤ length slots

-- A tree stands on each disk that has the same blocks where its nodes lie.
abbrev pub TreesStandByNodes : Type 0
TreesStandByNodes =
    (image other : Image) (form : Form) (owner : ℕ) (slots : List ℕ) (items : List Item) (root : Root)
    → ((b : ℕ) → IsInSlots form.nodesize (take root.nodes slots) b → block_at other b ≡ block_at image b)
    → TreeStands image form owner slots items root → TreeStands other form owner slots items root

-- The same by a map of addresses, which gives the slots at their offsets.
abbrev pub TreesStandByOffsets : Type 0
TreesStandByOffsets =
    (image other : Image) (ranges : List MapRange) (form : Form) (generation owner : ℕ) (slots offsets : List ℕ) (items : List Item) (root : Root)
    → MapsSlots ranges form.nodesize slots offsets
    → ((b : ℕ) → IsInSlots form.nodesize (take root.nodes offsets) b → block_at other b ≡ block_at image b)
    → TreeStandsBy image ranges form generation owner slots items root → TreeStandsBy other ranges form generation owner slots items root

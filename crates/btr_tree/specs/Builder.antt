-- What a builder of a tree holds, and how it goes on.
use Rattle.std.specs.Prelude.{◌≡◌, ℕ, ◌+◌, ◌≤◌, ◌<◌, Bool, true, List, [], ◌∷◌, ◌++◌, length, map, slice_index_or, Option, Some, MatchOption}
use Rattle.std.specs.List.{slice_get}
use Rattle.std.specs.List.{All, flat_map}
use Rattle.btr_node.specs.btrfs_format.declared.size.TheConstants.{ITEM_SIZE}
use Rattle.btr_node.specs.outside.History.{Image}
use Rattle.btr_node.specs.btr_keys.declared.key.Key.{Key}
use Rattle.btr_node.specs.Draft.{node_bytes}
use Rattle.btr_node.specs.Leaf.{Item, IsBtrfsLeaf, items_in, keys_of}
use Rattle.btr_node.specs.NodeSize.{IsNodeSize}
use Rattle.btr_node.specs.Order.{Ascends}
use Rattle.btr_node.specs.declared.child.Child.{Child}
use Rattle.btr_reader_walk.specs.Tree.{tree_items}
use Rattle.btr_reader_walk.specs.declared.map.MapRange.{MapRange}
use Rattle.btr_tree.specs.Building.{Made, AreSlots, slot, taken, with_written, nodes_on, pointer_to, expected_at, begun_at, with_node, with_item}
use Rattle.btr_tree.specs.Packing.{capacity, packed}
use Rattle.btr_tree.specs.Whole.{IsExact, IsWholeTree}

-- the nodes, and of the level that is being made the children that its nodes are for the level above
pub record Building : Type 0 where
  pub made : Made
  pub children : List Child
  -- what the leaf in hand is for the level above, if there is one
  pub hand : Option Child
  -- a call answered an error, or the tree is finished
  pub spent : Bool
  pub done : Bool

-- the items that were pushed: those of the leaves that were made, and those of the one in hand
abbrev pub pushed : Building → List Item
pushed b = flat_map items_in b.made.nodes ++ b.made.draft.items

abbrev pub no_key : Key
no_key = record { objectid = 0; kind = 0; offset = 0 }

abbrev pub first_key : List Item → Key
first_key items = (slice_index_or items 0 (no_key, [])).0

-- what its parent holds of a node with these items below it
abbrev pub child_of : ℕ → ℕ → List Item → Child
child_of generation address items = record { key = first_key items; address = address; generation = generation }

-- the children that leaves with these items are, each at its slot
abbrev pub children_of : ℕ → List ℕ → List (List Item) → List Child
children_of generation [] lists = []
children_of generation (a ∷ slots) [] = []
children_of generation (a ∷ slots) (items ∷ lists) = child_of generation a items ∷ children_of generation slots lists

-- the leaf in hand is made, which is this child
abbrev pub leaf_closed : Building → Child → Building
leaf_closed b child = record b { made = with_node b.made (node_bytes b.made.draft); children = b.children ++ child ∷ [] }

-- the next leaf is begun at this slot, with a first item
abbrev pub leaf_begun : Building → ℕ → Key → List ℕ → Building
leaf_begun b address key body =
    record b {
      made = with_item (begun_at b.made 0 address) key body;
      hand = Some (record { key = key; address = address; generation = b.made.generation });
    }

-- the next slot is this
abbrev pub IsNextSlot : Made → ℕ → Type 0
IsNextSlot m address = slice_get m.slots (length m.nodes) ≡ Some address

-- the slot that is taken next
abbrev pub IsNextTaken : Made → ℕ → Type 0
IsNextTaken m address = slice_get m.slots (taken m) ≡ Some address

-- the bytes that an item takes in a leaf
abbrev pub item_size : Item → ℕ
item_size item = ITEM_SIZE + length item.1

-- the leaf in hand, which is this child
pub record IsInHand (b : Building) (child : Child) : Type 0 where
  pub started : b.made.draft.started ≡ true
  pub want_is : b.made.draft.want ≡ expected_at b.made 0 (slot b.made.slots (length b.made.nodes))
  pub size : b.made.draft.nodesize ≡ b.made.form.nodesize
  pub no_children : b.made.draft.children ≡ []
  pub chunk_tree_is : b.made.draft.chunk_tree ≡ b.made.chunk_tree
  pub slot_left : length b.made.nodes < length b.made.slots
  pub some : 1 ≤ length b.made.draft.items
  pub child_is : child ≡ child_of b.made.generation (slot b.made.slots (length b.made.nodes)) b.made.draft.items

-- no leaf is in hand, and none was made
pub record IsIdle (b : Building) : Type 0 where
  pub no_nodes : b.made.nodes ≡ []
  pub no_items : b.made.draft.items ≡ []

-- What holds of all that was made after each push: each leaf that was made is on the grammar of its slot and exactly the bytes
-- of its draft, the children are those of the leaves, the leaves and the one in hand are those that packing the items in order
-- gives, and keys ascend over all.
pub record Standing (b : Building) : Type 0 where
  pub nodesize : IsNodeSize b.made.form.nodesize
  pub slots : AreSlots b.made.form.nodesize b.made.offsets
  pub as_many : length b.made.offsets ≡ length b.made.slots
  pub few : length b.made.nodes ≤ length b.made.slots
  pub hand : MatchOption b.hand (IsIdle b) (IsInHand b)
  pub leaves : (i : ℕ) → i < length b.made.nodes → IsBtrfsLeaf (expected_at b.made 0 (slot b.made.slots i)) (slice_index_or b.made.nodes i [])
  pub full : All (λ items. 1 ≤ length items) (map items_in b.made.nodes)
  pub children : b.children ≡ children_of b.made.generation b.made.slots (map items_in b.made.nodes)
  pub packing : packed item_size (capacity b.made.form.nodesize) (pushed b) ≡ map items_in b.made.nodes ++ b.made.draft.items ∷ []
  pub order : Ascends (keys_of (pushed b))
  pub exact : (i : ℕ) → i < length b.made.nodes → IsExact b.made.form.nodesize (expected_at b.made 0 (slot b.made.slots i)) b.made.chunk_tree (slice_index_or b.made.nodes i [])

-- all that was made, where the nodes that were written are these
abbrev pub all_made : Building → List (List ℕ) → Building
all_made b front = record b { made = with_written b.made front }

-- The builder holds the last of these items, and the first ones are in nodes that were written.
pub record Holds (b : Building) (items : List Item) : Type 0 where
  pub front : List (List ℕ)
  pub count : length front ≡ b.made.written
  pub standing : Standing (all_made b front)
  pub pushed_is : pushed (all_made b front) ≡ items

-- The builder is ready for the next item, whatever a disk tells.
abbrev pub IsReady : Building → Type 0
IsReady b = (items : List Item) × Holds b items

-- the nodes that were written, as a disk has them
abbrev pub told_nodes : Building → Image → List (List ℕ)
told_nodes b image = nodes_on image b.made.form.nodesize b.made.offsets b.made.written

-- The items that were pushed: those in the nodes that were written, as the disk has them, and those that the builder holds.
-- No block is read but those of these nodes.
abbrev pub pushed_on : Building → Image → List Item
pushed_on b image = pushed (all_made b (told_nodes b image))

-- The builder stands, with the nodes that were written as the disk has them.
abbrev pub Stands : Building → Image → Type 0
Stands b image = Standing (all_made b (told_nodes b image))

-- an item was put behind those that were pushed
pub record IsPushed (old new : Building) (item : Item) : Type 0 where
  pub standing : Standing new
  pub pushed_is : pushed new ≡ pushed old ++ item ∷ []

-- The item was put, and no node was written.
pub record HasPut (old new : Building) (item : Item) : Type 0 where
  pub same_written : new.made.written ≡ old.made.written
  pub put : (front : List (List ℕ)) → length front ≡ old.made.written → Standing (all_made old front) → IsPushed (all_made old front) (all_made new front) item

-- the tree and its slots stay
pub record IsSameBuilding (old new : Building) : Type 0 where
  pub form : new.made.form ≡ old.made.form
  pub owner : new.made.owner ≡ old.made.owner
  pub generation : new.made.generation ≡ old.made.generation
  pub slots : new.made.slots ≡ old.made.slots
  pub offsets : new.made.offsets ≡ old.made.offsets
  pub chunk_tree : new.made.chunk_tree ≡ old.made.chunk_tree

-- how many leaves items take
abbrev pub leaves_of : ℕ → List Item → ℕ
leaves_of nodesize items = length (packed item_size (capacity nodesize) items)

-- The tree of these items stands on a disk, by a map of addresses, under a root with this address and level.
abbrev pub HasTree : Image → List MapRange → Made → ℕ → ℕ → List Item → Type 0
HasTree image ranges m address level items = tree_items image ranges m.form (pointer_to m.generation level address) m.owner ≡ Some items

-- Each node of the tree under this root is exactly the bytes of its draft, and each child's key is the child's first key.
abbrev pub HasWhole : Image → List MapRange → Made → ℕ → ℕ → Type 0
HasWhole image ranges m address level = IsWholeTree image ranges m.form m.owner m.chunk_tree (pointer_to m.generation level address)

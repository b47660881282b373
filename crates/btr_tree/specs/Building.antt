-- A tree that is being written: the nodes that were made, and the one in hand.
use Rattle.std.specs.Prelude.{◌≡◌, ◌≢◌, ℕ, zero, suc, ◌+◌, ◌*◌, ◌/◌, ◌%◌, ◌^◌, ◌≤◌, ◌<◌, true, false, List, [], ◌∷◌, ◌++◌, length, map, take, drop, slice_index_or, Some, Bool, IsTrue}
use Rattle.std.specs.List.{slice_get}
use Rattle.std.specs.List.{All, AllPairs}
use Rattle.btr_node.specs.outside.History.{Image}
use Rattle.btr_node.specs.btr_keys.declared.key.Key.{Key}
use Rattle.btr_node.specs.Draft.{Draft, IsDraft, started_for}
use Rattle.btr_node.specs.Inner.{IsBtrfsInner, children_in}
use Rattle.btr_node.specs.Leaf.{IsBtrfsLeaf, items_in}
use Rattle.btr_node.specs.NodeSize.{IsNodeSize}
use Rattle.btr_node.specs.declared.child.Child.{Child}
use Rattle.btr_node.specs.declared.expect.Expect.{Expect}
use Rattle.btr_reader_walk.specs.Map.{identity, is_mapped, node_at, place}
use Rattle.btr_reader_walk.specs.Node.{want}
use Rattle.btr_reader_walk.specs.declared.map.MapRange.{MapRange}
use Rattle.btr_reader_walk.specs.declared.tree.Form.{Form}
use Rattle.btr_reader_walk.specs.declared.tree.NodePointer.{NodePointer}
use Rattle.btr_tree.specs.Whole.{IsExact}

-- the first n pieces of this size
abbrev pub pieces_of : ℕ → ℕ → List ℕ → List (List ℕ)
pieces_of size zero bytes = []
pieces_of size (suc n) bytes = take size bytes ∷ pieces_of size n (drop size bytes)

-- What is made of a tree: its nodes in the order of their slots, and the node in hand. A slot is the logical address of a node,
-- and has an offset, which is where it lies on the device. The first nodes may have been written; then those behind them are
-- held.
pub record Made : Type 0 where
  pub form : Form
  pub owner : ℕ
  pub generation : ℕ
  -- the identifier of the chunk tree
  pub chunk_tree : List ℕ
  pub slots : List ℕ
  pub offsets : List ℕ
  -- how many nodes were written
  pub written : ℕ
  pub nodes : List (List ℕ)
  pub draft : Draft

-- how many slots are taken
abbrev pub taken : Made → ℕ
taken m = m.written + length m.nodes

-- all that was made, where the nodes that were written are these
abbrev pub with_written : Made → List (List ℕ) → Made
with_written m front = record m { written = 0; nodes = front ++ m.nodes }

-- no slot that was taken is given back
pub record IsLater (old new : Made) : Type 0 where
  pub form : new.form ≡ old.form
  pub slots : new.slots ≡ old.slots
  pub offsets : new.offsets ≡ old.offsets
  pub grown : taken old ≤ taken new

-- the pointer to a node that a tree of this generation has
abbrev pub pointer_to : ℕ → ℕ → ℕ → NodePointer
pointer_to generation level address = record { address = address; level = level; generation = generation }

-- what the parent of a node will say of it
abbrev pub expected_at : Made → ℕ → ℕ → Expect
expected_at m level address = want m.form m.owner (pointer_to m.generation level address)

-- the next node is begun
abbrev pub begun_at : Made → ℕ → ℕ → Made
begun_at m level address =
    record m { draft = started_for m.form.nodesize (expected_at m level address) m.chunk_tree }

-- the node in hand is made
abbrev pub with_node : Made → List ℕ → Made
with_node m bytes = record m { nodes = m.nodes ++ bytes ∷ [] }

-- slot i, or 0 past the end
abbrev pub slot : List ℕ → ℕ → ℕ
slot slots i = slice_index_or slots i 0

-- nodes can lie at these offsets of a device, or addresses of a volume that gives each itself: they are distinct multiples of
-- the node size
pub record AreSlots (nodesize : ℕ) (slots : List ℕ) : Type 0 where
  pub aligned : All (λ a. a % nodesize ≡ 0) slots
  pub apart : AllPairs (λ a b. a ≢ b) slots
  pub small : All (λ a. a < 2 ^ 64) slots

-- the nodes stand on the disk, each at its offset
abbrev pub StandAt : Image → ℕ → List ℕ → List (List ℕ) → Type 0
StandAt image nodesize offsets nodes = (i : ℕ) → i < length nodes → node_at image identity nodesize (slot offsets i) ≡ slice_index_or nodes i []

-- A map of addresses gives the nodes, each at its slot.
pub record StandBy (image : Image) (ranges : List MapRange) (nodesize : ℕ) (slots : List ℕ) (nodes : List (List ℕ)) : Type 0 where
  pub mapped : (i : ℕ) → i < length nodes → is_mapped ranges nodesize (slot slots i) ≡ true
  pub nodes_are : (i : ℕ) → i < length nodes → node_at image ranges nodesize (slot slots i) ≡ slice_index_or nodes i []

-- A map of addresses gives each block of a node at a slot that many bytes behind the slot's offset.
pub record MapsSlots (ranges : List MapRange) (nodesize : ℕ) (slots offsets : List ℕ) : Type 0 where
  pub as_many : length offsets ≡ length slots
  pub whole : All (λ a. a % 4096 ≡ 0) slots
  pub places : (i : ℕ) → i < length slots → (k : ℕ) → k < nodesize / 4096 → place ranges (slot slots i + 4096 * k) ≡ Some (slot offsets i + 4096 * k)

-- the nodes at the first n offsets, as a disk has them
abbrev pub nodes_on : Image → ℕ → List ℕ → ℕ → List (List ℕ)
nodes_on image nodesize offsets n = map (λ a. node_at image identity nodesize a) (take n offsets)

-- Nodes may be written from one moment to the next. Where the nodes that were written before stand on a disk that tells, as
-- it was, those that are written now stand on it as it is.
pub record HasBack (tells : Bool) (before after : Image) (old new : Made) (R : Made → Made → Type 0) (front : List (List ℕ)) : Type 0 where
  pub back : List (List ℕ)
  pub count : length back ≡ new.written
  pub stands : IsTrue tells → StandAt before old.form.nodesize old.offsets front → StandAt after new.form.nodesize new.offsets back
  pub now : R (with_written old front) (with_written new back)

-- this holds between all that was made before and all that is made now, whatever the nodes are that were written before
abbrev pub Goes : Bool → Image → Image → Made → Made → (Made → Made → Type 0) → Type 0
Goes tells before after old new R = (front : List (List ℕ)) → length front ≡ old.written → HasBack tells before after old new R front

-- What the fields keep: at most 16 nodes are held, each has a slot, there is room for 16, and the node in hand can be written.
pub record IsStock (nodesize written held room : ℕ) (draft : Draft) (bytes slots offsets : List ℕ) : Type 0 where
  pub size : IsNodeSize nodesize
  pub same : draft.nodesize ≡ nodesize
  pub whole : length bytes ≡ nodesize * held
  pub few : written + held ≤ length slots
  pub as_many : length offsets ≡ length slots
  pub small : length slots < 2 ^ 64
  pub batch : held ≤ 16
  pub room_is : 16 * nodesize ≤ room
  pub right : IsTrue draft.started → IsDraft draft

-- nothing is made yet
pub record IsFresh (form : Form) (owner generation : ℕ) (chunk_tree slots offsets : List ℕ) (m : Made) : Type 0 where
  pub form_is : m.form ≡ form
  pub owner_is : m.owner ≡ owner
  pub generation_is : m.generation ≡ generation
  pub chunk_tree_is : m.chunk_tree ≡ chunk_tree
  pub slots_are : m.slots ≡ slots
  pub offsets_are : m.offsets ≡ offsets
  pub as_many : length m.offsets ≡ length m.slots
  pub none_written : m.written ≡ 0
  pub no_nodes : m.nodes ≡ []
  pub idle : m.draft.started ≡ false
  pub no_items : m.draft.items ≡ []

-- one item, or one child more in the node in hand
abbrev pub with_item : Made → Key → List ℕ → Made
with_item m key body = record m { draft = record m.draft { items = m.draft.items ++ (key, body) ∷ [] } }

abbrev pub with_child : Made → Child → Made
with_child m child = record m { draft = record m.draft { children = m.draft.children ++ child ∷ [] } }

-- the bytes of a node are on the grammar, with what was put in, which could be written
pub record NodeReadsBack (draft : Draft) (bytes : List ℕ) : Type 0 where
  pub size : length bytes ≡ draft.nodesize
  pub leaf : draft.want.level ≡ 0 → IsBtrfsLeaf draft.want bytes
  pub items : draft.want.level ≡ 0 → items_in bytes ≡ draft.items
  pub inner : 1 ≤ draft.want.level → IsBtrfsInner draft.want bytes
  pub links : 1 ≤ draft.want.level → children_in bytes ≡ draft.children
  pub right : IsDraft draft

-- the children begin an inner node in hand
abbrev pub filled : Made → ℕ → ℕ → List Child → Made
filled m level address children =
    record m {
      draft = record (started_for m.form.nodesize (expected_at m level address) m.chunk_tree) { children = children };
    }

-- the nodes that are held were written
abbrev pub flushed : Made → Made
flushed m = record m { written = taken m; nodes = [] }

-- A node of this level was made at slot n, with these children, and it is this child of the level above.
pub record IsParentAt (n : ℕ) (old : Made) (level : ℕ) (part : List Child) (child : Child) (new : Made) : Type 0 where
  pub address : ℕ
  pub bytes : List ℕ
  pub draft : Draft
  pub next : slice_get old.slots n ≡ Some address
  pub is : new ≡ record old { nodes = old.nodes ++ bytes ∷ []; draft = draft }
  pub inner : IsBtrfsInner (expected_at old level address) bytes
  pub links : children_in bytes ≡ part
  pub exact : IsExact old.form.nodesize (expected_at old level address) old.chunk_tree bytes
  pub child_is : child ≡ record { key = (slice_index_or part 0 child).key; address = address; generation = old.generation }

-- the same at the next slot, where no node was written
abbrev pub IsParent : Made → ℕ → List Child → Child → Made → Type 0
IsParent old level part child new = IsParentAt (length old.nodes) old level part child new

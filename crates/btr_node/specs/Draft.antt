-- A node that is being written, and the bytes of it. A leaf has items and no children, an inner node children and no
-- items.
use Rattle.std.specs.Prelude.{◌≡◌, ℕ, ◌+◌, ◌-◌, ◌*◌, ◌≤◌, Bool, true, false, List, [], ◌∷◌, ◌++◌, length, replicate, sum_by}
use Rattle.std.specs.List.{All, flat_map}
use Rattle.btr_keys.specs.btrfs_format.declared.flag.TheConstants.{HEADER_FLAG_WRITTEN, MIXED_BACKREF_REV}
use Rattle.btr_keys.specs.btrfs_format.declared.size.TheConstants.{HEADER_SIZE, ITEM_SIZE, KEY_PTR_SIZE}
use Rattle.btr_keys.specs.Key.{key_layout}
use Rattle.btr_keys.specs.Layout.{spelling}
use Rattle.csum_kinds.specs.declared.kind.SumKind.{SumKind}
use Rattle.csum_kinds.specs.Kind.{kind_sum}
use Rattle.btr_node.specs.Head.{head_layout}
use Rattle.btr_node.specs.Inner.{child_layout, first_keys}
use Rattle.btr_node.specs.Leaf.{Item, item_layout, keys_of}
use Rattle.btr_node.specs.NodeSize.{IsNodeSize}
use Rattle.btr_node.specs.Order.{Ascends}
use Rattle.btr_node.specs.declared.child.Child.{Child}
use Rattle.btr_node.specs.declared.expect.Expect.{Expect}
use Rattle.btr_node.specs.declared.head.Head.{Head}
use Rattle.btr_node.specs.declared.item.BtrItemHead.{BtrItemHead}

pub record Draft : Type 0 where
  pub nodesize : ℕ
  pub started : Bool
  -- what the node's parent will say of it
  pub want : Expect
  -- the identifier of the chunk tree
  pub chunk_tree : List ℕ
  pub items : List Item
  pub children : List Child

-- the bytes that items take, with their heads
abbrev pub draft_bytes : List Item → ℕ
draft_bytes items = sum_by (λ item. ITEM_SIZE + length item.1) items

-- the bytes that are left behind the head of n bytes with these entries
abbrev pub room_in : ℕ → List Item → List Child → ℕ
room_in n items children = n - (draft_bytes items + KEY_PTR_SIZE * length children)

abbrev pub room : Draft → ℕ
room draft = room_in (draft.nodesize - HEADER_SIZE) draft.items draft.children

-- The heads of items: the data of the first ends at `end`, and that of each other one where the one before begins.
abbrev pub heads_of : ℕ → List Item → List BtrItemHead
heads_of end [] = []
heads_of end (item ∷ items) =
    record { key = item.0; offset = end - length item.1; size = length item.1 } ∷ heads_of (end - length item.1) items

-- the data, that of the last item first
abbrev pub data_of : List Item → List ℕ
data_of [] = []
data_of (item ∷ items) = data_of items ++ item.1

-- the n bytes behind the head: heads of items or children, zeros, and the data of items
unfoldable pub contents : ℕ → List Item → List Child → List ℕ
contents n items children =
    flat_map (spelling item_layout) (heads_of n items)
    ++ (flat_map (spelling child_layout) children ++ (replicate (room_in n items children) 0 ++ data_of items))

-- The head that is written: the first flag says that the node was written, and the revision is that of today's format.
abbrev pub head_of : Draft → Head
head_of draft =
    record {
      fsid = draft.want.fsid;
      address = draft.want.address;
      flags = HEADER_FLAG_WRITTEN ∷ replicate 6 0;
      revision = MIXED_BACKREF_REV;
      chunk_tree = draft.chunk_tree;
      generation = draft.want.generation;
      owner = draft.want.owner;
      count = length draft.items + length draft.children;
      level = draft.want.level;
    }

-- bytes with their checksum in front
unfoldable pub sealed : SumKind → List ℕ → List ℕ
sealed sums bytes = kind_sum sums bytes ++ bytes

-- the bytes of the node
unfoldable pub node_bytes : Draft → List ℕ
node_bytes draft = sealed draft.want.sums (spelling head_layout (head_of draft) ++ contents (draft.nodesize - HEADER_SIZE) draft.items draft.children)

-- nothing is started yet
pub record IsBlank (nodesize : ℕ) (draft : Draft) : Type 0 where
  pub size : draft.nodesize ≡ nodesize
  pub idle : draft.started ≡ false
  pub no_items : draft.items ≡ []
  pub no_children : draft.children ≡ []

-- an empty node of which its parent will say this
abbrev pub started_for : ℕ → Expect → List ℕ → Draft
started_for nodesize want chunk_tree =
    record { nodesize = nodesize; started = true; want = want; chunk_tree = chunk_tree; items = []; children = [] }

-- A node that can be written: what it holds fits and ascends, and its numbers have a spelling.
pub record IsDraft (draft : Draft) : Type 0 where
  pub nodesize : IsNodeSize draft.nodesize
  pub fits : HEADER_SIZE + draft_bytes draft.items + KEY_PTR_SIZE * length draft.children ≤ draft.nodesize
  pub head : head_layout.fits (head_of draft)
  pub keys : All (λ item. key_layout.fits item.0) draft.items
  pub links : All (λ child. child_layout.fits child) draft.children
  pub leaf : draft.want.level ≡ 0 → draft.children ≡ []
  pub inner : 1 ≤ draft.want.level → draft.items ≡ []
  pub item_order : Ascends (keys_of draft.items)
  pub child_order : Ascends (first_keys draft.children)

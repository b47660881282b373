-- Leaves, as the Btrfs on-disk format documentation has them: heads of items behind the node's head, and their data
-- anywhere behind these.
use Rattle.std.specs.Prelude.{◌≡◌, ℕ, ◌+◌, ◌*◌, ◌≤◌, ◌==◌, nat_le, Bool, ◌&&◌, List, length, drop, map, slice_range}
use Rattle.btr_keys.specs.btrfs_format.declared.size.TheConstants.{HEADER_SIZE, ITEM_SIZE}
use Rattle.btr_keys.specs.Layout.{Layout, made_by, ◌▸◌, part, u32}
use Rattle.btr_keys.specs.Key.{key_layout}
use Rattle.btr_keys.specs.declared.key.Key.{Key}
use Rattle.btr_node.specs.Records.{records_in}
use Rattle.btr_node.specs.Head.{nritems, behind_head, HasHead, has_head}
use Rattle.btr_node.specs.Sum.{HasSum}
use Rattle.btr_node.specs.Areas.{HasAreas, has_areas}
use Rattle.btr_node.specs.Order.{ascends, Ascends}
use Rattle.btr_node.specs.declared.expect.Expect.{Expect}
use Rattle.btr_node.specs.declared.item.BtrItemHead.{BtrItemHead}

abbrev pub make_item_head : Key → ℕ → ℕ → BtrItemHead
make_item_head key offset size = record { key = key; offset = offset; size = size }

unfoldable pub item_layout : Layout BtrItemHead BtrItemHead
item_layout =
    made_by make_item_head
    ▸ part key_layout (λ i. i.key)
    ▸ u32 (λ i. i.offset)
    ▸ u32 (λ i. i.size)

-- the heads of a leaf's items
unfoldable pub heads_in : List ℕ → List BtrItemHead
heads_in bytes = records_in ITEM_SIZE item_layout (nritems bytes) (behind_head bytes)

-- the head of item i
abbrev pub head_at : List ℕ → ℕ → BtrItemHead
head_at bytes i = item_layout.read (drop (ITEM_SIZE * i) (behind_head bytes))

-- an item: its key and its data
abbrev pub Item : Type 0
Item = Key × List ℕ

abbrev pub item_of : List ℕ → BtrItemHead → Item
item_of behind head = (head.key, slice_range behind head.offset (head.offset + head.size))

-- the items of a leaf
unfoldable pub items_in : List ℕ → List Item
items_in bytes = map (item_of (behind_head bytes)) (heads_in bytes)

abbrev pub keys_of : List Item → List Key
keys_of items = map (λ item. item.0) items

-- the heads lie in the node, and the data where it may
pub record HasLeafLayout (bytes : List ℕ) : Type 0 where
  pub heads : HEADER_SIZE + ITEM_SIZE * nritems bytes ≤ length bytes
  pub areas : HasAreas (ITEM_SIZE * nritems bytes) (length (behind_head bytes)) (heads_in bytes)

-- a leaf of which a parent says this
pub record IsBtrfsLeaf (want : Expect) (bytes : List ℕ) : Type 0 where
  pub sum : HasSum want.sums bytes
  pub head : HasHead want bytes
  pub level : want.level ≡ 0
  pub layout : HasLeafLayout bytes
  pub order : Ascends (keys_of (items_in bytes))

-- The same as tests.
abbrev pub has_leaf_head : Expect → List ℕ → Bool
has_leaf_head want bytes = (want.level == 0) && has_head want bytes

unfoldable pub has_leaf_layout : List ℕ → Bool
has_leaf_layout bytes =
    nat_le (HEADER_SIZE + ITEM_SIZE * nritems bytes) (length bytes) && has_areas (ITEM_SIZE * nritems bytes) (length (behind_head bytes)) (heads_in bytes)

abbrev pub has_leaf_order : List ℕ → Bool
has_leaf_order bytes = ascends (keys_of (items_in bytes))

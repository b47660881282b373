-- Items of the extent tree, as the Btrfs on-disk format documentation has them: extents with references to them, and
-- references in items of their own.
use Rattle.std.specs.Prelude.{ℕ, ◌+◌, ◌-◌, ◌==◌, nat_lt, nat_le, Bool, not, ◌&&◌, ◌||◌, bit_and, if◌then◌else◌, List, drop, length, slice_index, Option, Some, None}
use Rattle.std.specs.Option.{option_and_then, option_map}
use Rattle.btr_reader_walk.specs.btrfs_format.declared.flag.TheConstants.{BLOCK_FLAG_FULL_BACKREF, EXTENT_FLAG_TREE_BLOCK}
use Rattle.btr_reader_walk.specs.btrfs_format.declared.key.TheConstants.{EXTENT_DATA_REF, EXTENT_ITEM, METADATA_ITEM, SHARED_BLOCK_REF, SHARED_DATA_REF, TREE_BLOCK_REF}
use Rattle.btr_reader_walk.specs.btrfs_format.declared.size.TheConstants.{EXTENT_ITEM_SIZE, INLINE_DATA_REF_SIZE, KEY_SIZE}
use Rattle.btr_reader.specs.castagnoli.Castagnoli.{data_ref_hash}
use Rattle.btr_reader.specs.btr_node.Leaf.{Item}
use Rattle.btr_reader.specs.btr_space_items.ExtentHead.{extent_head_of}
use Rattle.btr_reader.specs.btr_space_items.InlineRef.{inline_refs_of, ref_kind, ref_objectid, ref_offset, ref_parent, ref_root}
use Rattle.btr_reader.specs.btr_space_items.declared.extent_head.ExtentHead.{ExtentHead}
use Rattle.btr_reader.specs.btr_space_items.declared.inline_ref.InlineRef.{InlineRef}
use Rattle.btr_reader.specs.btr_space_items.declared.inline_ref.InlineRef.TheVariants.{TreeBlock, SharedBlock, DataRef, SharedData}
use Rattle.btr_reader.specs.vol_block.Volume.{field}

-- ---- references

-- two references are by the same tree, node, file or leaf, however often
abbrev pub same_ref : InlineRef → InlineRef → Bool
same_ref a b =
    (ref_kind a == ref_kind b) && ((ref_root a == ref_root b) && ((ref_objectid a == ref_objectid b) && ((ref_offset a == ref_offset b) && (ref_parent a == ref_parent b))))

-- it refers to nodes
abbrev pub refers_to_node : InlineRef → Bool
refers_to_node ref = (ref_kind ref == TREE_BLOCK_REF) || (ref_kind ref == SHARED_BLOCK_REF)

-- by what references of a kind descend in an item: trees, nodes, and hashes
abbrev pub ref_place : InlineRef → ℕ
ref_place (TreeBlock root) = root
ref_place (SharedBlock parent) = parent
ref_place (DataRef root objectid offset count) = data_ref_hash root objectid offset
ref_place (SharedData parent count) = parent

-- ---- extents

-- An extent as its item tells it; of a node its level.
pub record Extent : Type 0 where
  pub start : ℕ
  pub length : ℕ
  pub head : ExtentHead
  pub level : Option ℕ
  pub refs : List InlineRef

abbrev pub is_node_head : ExtentHead → Bool
is_node_head head = not (bit_and head.flags EXTENT_FLAG_TREE_BLOCK == 0)

abbrev pub is_node : Extent → Bool
is_node e = is_node_head e.head

-- what a node refers to names the node itself, and not its tree
abbrev pub is_full : Extent → Bool
is_full e = not (bit_and e.head.flags BLOCK_FLAG_FULL_BACKREF == 0)

abbrev pub extent_by : ℕ → ℕ → Option ℕ → List ℕ → ExtentHead → Option Extent
extent_by start length level refs head = option_map (λ found. record { start = start; length = length; head = head; level = level; refs = found }) (inline_refs_of refs)

-- An item of kind 169 is that of a node, whose level is in the key. In one of kind 168 a node has its first key and its level between
-- the head and the references (struct btrfs_tree_block_info).
abbrev pub plain_extent : Item → ExtentHead → Option Extent
plain_extent i head =
    if is_node_head head
    then (if nat_lt (length i.1) (EXTENT_ITEM_SIZE + KEY_SIZE + 1) then None
    else extent_by i.0.objectid i.0.offset (Some (slice_index i.1 (EXTENT_ITEM_SIZE + KEY_SIZE))) (drop (EXTENT_ITEM_SIZE + KEY_SIZE + 1) i.1) head)
    else extent_by i.0.objectid i.0.offset None (drop EXTENT_ITEM_SIZE i.1) head

abbrev pub skinny_extent : ℕ → Item → ExtentHead → Option Extent
skinny_extent nodesize i head = extent_by i.0.objectid nodesize (Some i.0.offset) (drop EXTENT_ITEM_SIZE i.1) head

abbrev pub is_extent_item : Item → Bool
is_extent_item i = (i.0.kind == EXTENT_ITEM) || (i.0.kind == METADATA_ITEM)

-- the extent that an item of one of the two kinds is, if it is on the grammar
abbrev pub extent_of : ℕ → Item → Option Extent
extent_of nodesize i =
    option_and_then (λ head. if i.0.kind == METADATA_ITEM then skinny_extent nodesize i head else plain_extent i head) (extent_head_of i.1)

-- ---- references in items of their own

abbrev pub is_ref_item : Item → Bool
is_ref_item i =
    (i.0.kind == TREE_BLOCK_REF) || ((i.0.kind == EXTENT_DATA_REF) || ((i.0.kind == SHARED_BLOCK_REF) || (i.0.kind == SHARED_DATA_REF)))

-- the three numbers of a reference by a file, and its count (struct btrfs_extent_data_ref)
abbrev pub file_ref : List ℕ → InlineRef
file_ref body = DataRef (field 8 body 0) (field 8 body 8) (field 8 body 16) (field 4 body 24)

-- A reference by a file stands under its hash, or up to 63 behind that where others have it (hash_extent_data_ref).
abbrev pub stands_under : ℕ → ℕ → Bool
stands_under offset hash = nat_le hash offset && nat_lt offset (hash + 64)

abbrev pub own_file_ref : Item → Option InlineRef
own_file_ref i = if (length i.1 == INLINE_DATA_REF_SIZE - 1) && stands_under i.0.offset (ref_place (file_ref i.1)) then Some (file_ref i.1) else None

-- the reference that such an item is
abbrev pub ref_of_item : Item → Option InlineRef
ref_of_item i =
    if i.0.kind == EXTENT_DATA_REF then own_file_ref i
    else (if i.0.kind == SHARED_DATA_REF
    then (if length i.1 == 4 then Some (SharedData i.0.offset (field 4 i.1 0)) else None)
    else (if length i.1 == 0 then Some (if i.0.kind == TREE_BLOCK_REF then TreeBlock i.0.offset else SharedBlock i.0.offset) else None))

-- References that stand in an extent or metadata item, as the Btrfs on-disk format documentation has them (struct
-- btrfs_extent_inline_ref, struct btrfs_extent_data_ref and struct btrfs_shared_data_ref).
use Rattle.std.specs.Prelude.{ℕ, ◌==◌, nat_lt, if◌then◌else◌, List, length, drop, slice_index, Option, Some, None}
use Rattle.btr_keys.specs.btrfs_format.declared.key.TheConstants.{EXTENT_DATA_REF, SHARED_BLOCK_REF, SHARED_DATA_REF, TREE_BLOCK_REF}
use Rattle.btr_keys.specs.btrfs_format.declared.size.TheConstants.{INLINE_BLOCK_REF_SIZE, INLINE_DATA_REF_SIZE}
use Rattle.btr_keys.specs.Layout.{Layout, made_by, ◌▸◌, u8, u32, u64, spelling}
use Rattle.btr_keys.specs.Repeated.{records}
use Rattle.btr_space_items.specs.declared.inline_ref.InlineRef.{InlineRef}
use Rattle.btr_space_items.specs.declared.inline_ref.TheConstants.{INLINE_SHARED_DATA_REF_SIZE}
use Rattle.btr_space_items.specs.declared.inline_ref.InlineRef.TheVariants.{TreeBlock, SharedBlock, DataRef, SharedData}

-- the byte that says which reference it is
abbrev pub ref_kind : InlineRef → ℕ
ref_kind (TreeBlock root) = TREE_BLOCK_REF
ref_kind (SharedBlock parent) = SHARED_BLOCK_REF
ref_kind (DataRef root objectid offset count) = EXTENT_DATA_REF
ref_kind (SharedData parent count) = SHARED_DATA_REF

abbrev pub ref_root : InlineRef → ℕ
ref_root (TreeBlock root) = root
ref_root (SharedBlock parent) = 0
ref_root (DataRef root objectid offset count) = root
ref_root (SharedData parent count) = 0

abbrev pub ref_objectid : InlineRef → ℕ
ref_objectid (TreeBlock root) = 0
ref_objectid (SharedBlock parent) = 0
ref_objectid (DataRef root objectid offset count) = objectid
ref_objectid (SharedData parent count) = 0

abbrev pub ref_offset : InlineRef → ℕ
ref_offset (TreeBlock root) = 0
ref_offset (SharedBlock parent) = 0
ref_offset (DataRef root objectid offset count) = offset
ref_offset (SharedData parent count) = 0

abbrev pub ref_count : InlineRef → ℕ
ref_count (TreeBlock root) = 0
ref_count (SharedBlock parent) = 0
ref_count (DataRef root objectid offset count) = count
ref_count (SharedData parent count) = count

abbrev pub ref_parent : InlineRef → ℕ
ref_parent (TreeBlock root) = 0
ref_parent (SharedBlock parent) = parent
ref_parent (DataRef root objectid offset count) = 0
ref_parent (SharedData parent count) = parent

-- how many uses of the extent it stands for
abbrev pub ref_uses : InlineRef → ℕ
ref_uses (TreeBlock root) = 1
ref_uses (SharedBlock parent) = 1
ref_uses (DataRef root objectid offset count) = count
ref_uses (SharedData parent count) = count

abbrev pub make_tree_block : ℕ → ℕ → InlineRef
make_tree_block kind root = TreeBlock root

unfoldable pub tree_block_layout : Layout InlineRef InlineRef
tree_block_layout =
    made_by make_tree_block
    ▸ u8 ref_kind
    ▸ u64 ref_root

abbrev pub make_shared_block : ℕ → ℕ → InlineRef
make_shared_block kind parent = SharedBlock parent

unfoldable pub shared_block_layout : Layout InlineRef InlineRef
shared_block_layout =
    made_by make_shared_block
    ▸ u8 ref_kind
    ▸ u64 ref_parent

abbrev pub make_data_ref : ℕ → ℕ → ℕ → ℕ → ℕ → InlineRef
make_data_ref kind root objectid offset count = DataRef root objectid offset count

unfoldable pub data_ref_layout : Layout InlineRef InlineRef
data_ref_layout =
    made_by make_data_ref
    ▸ u8 ref_kind
    ▸ u64 ref_root
    ▸ u64 ref_objectid
    ▸ u64 ref_offset
    ▸ u32 ref_count

abbrev pub make_shared_data : ℕ → ℕ → ℕ → InlineRef
make_shared_data kind parent count = SharedData parent count

unfoldable pub shared_data_layout : Layout InlineRef InlineRef
shared_data_layout =
    made_by make_shared_data
    ▸ u8 ref_kind
    ▸ u64 ref_parent
    ▸ u32 ref_count

-- the reference that bytes begin with
abbrev pub inline_ref_front : List ℕ → InlineRef
inline_ref_front bytes =
    if slice_index bytes 0 == TREE_BLOCK_REF then tree_block_layout.read bytes
    else (if slice_index bytes 0 == SHARED_BLOCK_REF then shared_block_layout.read bytes
    else (if slice_index bytes 0 == SHARED_DATA_REF then shared_data_layout.read bytes
    else data_ref_layout.read bytes))

-- the bytes behind the first n
abbrev pub rest_of : ℕ → List ℕ → Option (List ℕ)
rest_of n bytes = if nat_lt (length bytes) n then None else Some (drop n bytes)

-- the bytes behind the reference that bytes begin with, if it is whole and of one of the four kinds
unfoldable pub behind_inline : List ℕ → Option (List ℕ)
behind_inline bytes =
    if slice_index bytes 0 == TREE_BLOCK_REF then rest_of INLINE_BLOCK_REF_SIZE bytes
    else (if slice_index bytes 0 == SHARED_BLOCK_REF then rest_of INLINE_BLOCK_REF_SIZE bytes
    else (if slice_index bytes 0 == EXTENT_DATA_REF then rest_of INLINE_DATA_REF_SIZE bytes
    else (if slice_index bytes 0 == SHARED_DATA_REF then rest_of INLINE_SHARED_DATA_REF_SIZE bytes else None)))

-- the references that bytes are, none or more
abbrev pub inline_refs_of : List ℕ → Option (List InlineRef)
inline_refs_of bytes = records behind_inline inline_ref_front bytes

-- how many bytes a reference takes
abbrev pub inline_ref_size : InlineRef → ℕ
inline_ref_size (TreeBlock root) = INLINE_BLOCK_REF_SIZE
inline_ref_size (SharedBlock parent) = INLINE_BLOCK_REF_SIZE
inline_ref_size (DataRef root objectid offset count) = INLINE_DATA_REF_SIZE
inline_ref_size (SharedData parent count) = INLINE_SHARED_DATA_REF_SIZE

-- the bytes of a reference
abbrev pub inline_ref_bytes : InlineRef → List ℕ
inline_ref_bytes (TreeBlock root) = spelling tree_block_layout (TreeBlock root)
inline_ref_bytes (SharedBlock parent) = spelling shared_block_layout (SharedBlock parent)
inline_ref_bytes (DataRef root objectid offset count) = spelling data_ref_layout (DataRef root objectid offset count)
inline_ref_bytes (SharedData parent count) = spelling shared_data_layout (SharedData parent count)

-- its numbers fit
abbrev pub FitsInline : InlineRef → Type 0
FitsInline (TreeBlock root) = tree_block_layout.fits (TreeBlock root)
FitsInline (SharedBlock parent) = shared_block_layout.fits (SharedBlock parent)
FitsInline (DataRef root objectid offset count) = data_ref_layout.fits (DataRef root objectid offset count)
FitsInline (SharedData parent count) = shared_data_layout.fits (SharedData parent count)

-- Bodies of device extents, as the Btrfs on-disk format documentation has them (struct btrfs_dev_extent).
use Rattle.std.specs.Prelude.{ℕ, List, drop, Option}
use Rattle.btr_keys.specs.btrfs_format.declared.size.TheConstants.{DEV_EXTENT_SIZE}
use Rattle.btr_keys.specs.Layout.{Layout, made_by, ◌▸◌, u64, array, whole, spelling}
use Rattle.btr_space_items.specs.declared.dev_extent.DevExtent.{DevExtent}

abbrev pub make_dev_extent : ℕ → ℕ → ℕ → ℕ → List ℕ → DevExtent
make_dev_extent chunk_tree chunk_objectid chunk_offset length chunk_tree_uuid =
    record {
      chunk_tree = chunk_tree;
      chunk_objectid = chunk_objectid;
      chunk_offset = chunk_offset;
      length = length;
      chunk_tree_uuid = chunk_tree_uuid;
    }

unfoldable pub dev_extent_layout : Layout DevExtent DevExtent
dev_extent_layout =
    made_by make_dev_extent
    ▸ u64 (λ v. v.chunk_tree)
    ▸ u64 (λ v. v.chunk_objectid)
    ▸ u64 (λ v. v.chunk_offset)
    ▸ u64 (λ v. v.length)
    ▸ array 16 (λ v. v.chunk_tree_uuid)

-- the value in the 48 bytes from a place on
abbrev pub dev_extent_at : List ℕ → ℕ → DevExtent
dev_extent_at bytes at = dev_extent_layout.read (drop at bytes)

-- the value that is the whole body
abbrev pub dev_extent_of : List ℕ → Option DevExtent
dev_extent_of body = whole DEV_EXTENT_SIZE dev_extent_layout body

-- the 48 bytes of a value
abbrev pub dev_extent_bytes : DevExtent → List ℕ
dev_extent_bytes value = spelling dev_extent_layout value

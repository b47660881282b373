-- Bodies of block group items, as the Btrfs on-disk format documentation has them (struct btrfs_block_group_item).
use Rattle.std.specs.Prelude.{ℕ, List, drop, Option}
use Rattle.btr_keys.specs.btrfs_format.declared.size.TheConstants.{BLOCK_GROUP_ITEM_SIZE}
use Rattle.btr_keys.specs.Layout.{Layout, made_by, ◌▸◌, u64, whole, spelling}
use Rattle.btr_space_items.specs.declared.block_group.BlockGroup.{BlockGroup}

abbrev pub make_block_group : ℕ → ℕ → ℕ → BlockGroup
make_block_group used chunk_objectid flags =
    record {
      used = used;
      chunk_objectid = chunk_objectid;
      flags = flags;
    }

unfoldable pub block_group_layout : Layout BlockGroup BlockGroup
block_group_layout =
    made_by make_block_group
    ▸ u64 (λ v. v.used)
    ▸ u64 (λ v. v.chunk_objectid)
    ▸ u64 (λ v. v.flags)

-- the value in the 24 bytes from a place on
abbrev pub block_group_at : List ℕ → ℕ → BlockGroup
block_group_at bytes at = block_group_layout.read (drop at bytes)

-- the value that is the whole body
abbrev pub block_group_of : List ℕ → Option BlockGroup
block_group_of body = whole BLOCK_GROUP_ITEM_SIZE block_group_layout body

-- the 24 bytes of a value
abbrev pub block_group_bytes : BlockGroup → List ℕ
block_group_bytes value = spelling block_group_layout value

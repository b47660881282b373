-- The superblock, as the Btrfs on-disk format documentation has it (struct btrfs_super_block).
use Rattle.std.specs.Prelude.{ℕ, ◌*◌, ◌==◌, bit_and, if◌then◌else◌, List, ◌++◌, drop, codes, replicate}
use Rattle.btr_space_items.specs.btrfs_format.declared.feature.TheConstants.{METADATA_UUID}
use Rattle.refusals.specs.vol_block.Volume.{put_field}
use Rattle.btr_space_items.specs.btr_keys.Layout.{Layout, made_by, ◌▸◌, u8, u16, u32, u64, array, part, spelling}
use Rattle.btr_space_items.specs.Device.{device_layout}
use Rattle.btr_space_items.specs.declared.device.Device.{Device}
use Rattle.btr_super.specs.declared.superblock.Super.{Super}
use Rattle.btr_super.specs.Constant.{◌▸▸◌}
use Rattle.btr_super.specs.Sums.{sealed}

abbrev pub make_super : List ℕ → ℕ → ℕ → ℕ → ℕ → ℕ → ℕ → ℕ → ℕ → ℕ → ℕ → ℕ → ℕ → ℕ → ℕ → ℕ → ℕ → ℕ → ℕ → ℕ → ℕ → ℕ → ℕ → ℕ → ℕ → Device → List ℕ → ℕ → ℕ → List ℕ → List ℕ → List ℕ → Super
make_super fsid bytenr flags generation root chunk_root log_root log_root_transid total_bytes bytes_used root_dir_objectid num_devices sectorsize nodesize leafsize stripesize sys_chunk_array_size chunk_root_generation compat compat_ro incompat csum_type root_level chunk_root_level log_root_level dev_item label cache_generation uuid_tree_generation metadata_uuid sys_chunk_array backup_roots =
    record {
      fsid = fsid;
      bytenr = bytenr;
      flags = flags;
      generation = generation;
      root = root;
      chunk_root = chunk_root;
      log_root = log_root;
      log_root_transid = log_root_transid;
      total_bytes = total_bytes;
      bytes_used = bytes_used;
      root_dir_objectid = root_dir_objectid;
      num_devices = num_devices;
      sectorsize = sectorsize;
      nodesize = nodesize;
      leafsize = leafsize;
      stripesize = stripesize;
      sys_chunk_array_size = sys_chunk_array_size;
      chunk_root_generation = chunk_root_generation;
      compat = compat;
      compat_ro = compat_ro;
      incompat = incompat;
      csum_type = csum_type;
      root_level = root_level;
      chunk_root_level = chunk_root_level;
      log_root_level = log_root_level;
      dev_item = dev_item;
      label = label;
      cache_generation = cache_generation;
      uuid_tree_generation = uuid_tree_generation;
      metadata_uuid = metadata_uuid;
      sys_chunk_array = sys_chunk_array;
      backup_roots = backup_roots;
    }

-- what the checksum covers: the bytes from byte 32 on
unfoldable pub super_layout : Layout Super Super
super_layout =
    made_by make_super
    ▸ array 16 (λ s. s.fsid)
    ▸ u64 (λ s. s.bytenr)
    ▸ u64 (λ s. s.flags)
    ▸▸ codes "_BHRfS_M"
    ▸ u64 (λ s. s.generation)
    ▸ u64 (λ s. s.root)
    ▸ u64 (λ s. s.chunk_root)
    ▸ u64 (λ s. s.log_root)
    ▸ u64 (λ s. s.log_root_transid)
    ▸ u64 (λ s. s.total_bytes)
    ▸ u64 (λ s. s.bytes_used)
    ▸ u64 (λ s. s.root_dir_objectid)
    ▸ u64 (λ s. s.num_devices)
    ▸ u32 (λ s. s.sectorsize)
    ▸ u32 (λ s. s.nodesize)
    ▸ u32 (λ s. s.leafsize)
    ▸ u32 (λ s. s.stripesize)
    ▸ u32 (λ s. s.sys_chunk_array_size)
    ▸ u64 (λ s. s.chunk_root_generation)
    ▸ u64 (λ s. s.compat)
    ▸ u64 (λ s. s.compat_ro)
    ▸ u64 (λ s. s.incompat)
    ▸ u16 (λ s. s.csum_type)
    ▸ u8 (λ s. s.root_level)
    ▸ u8 (λ s. s.chunk_root_level)
    ▸ u8 (λ s. s.log_root_level)
    ▸ part device_layout (λ s. s.dev_item)
    ▸ array 256 (λ s. s.label)
    ▸ u64 (λ s. s.cache_generation)
    ▸ u64 (λ s. s.uuid_tree_generation)
    ▸ array 16 (λ s. s.metadata_uuid)
    ▸▸ replicate 224 0
    ▸ array 2048 (λ s. s.sys_chunk_array)
    ▸ array 672 (λ s. s.backup_roots)
    ▸▸ replicate 565 0

-- the superblock that a block is
abbrev pub super_in : List ℕ → Super
super_in block = super_layout.read (drop 32 block)

-- the block of a superblock
abbrev pub super_bytes : Super → List ℕ
super_bytes s = sealed (replicate 32 0 ++ spelling super_layout s)

-- the same superblock at another place, a number of a block: with its address in bytes, and its checksum
abbrev pub mirror_bytes : ℕ → List ℕ → List ℕ
mirror_bytes place block = sealed (put_field 8 block 48 (4096 * place))

-- The identifier that the nodes of the volume have: the file system's, unless the feature METADATA_UUID says that this was changed
-- behind them; it is then in a field of its own.
abbrev pub node_fsid : Super → List ℕ
node_fsid s = if bit_and s.incompat METADATA_UUID == 0 then s.fsid else s.metadata_uuid

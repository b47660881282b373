-- The items of the chunk tree and of the device tree, as the Btrfs on-disk format documentation has them.
use Rattle.std.specs.Prelude.{ℕ, ◌*◌, List, ◌∷◌, map}
use Rattle.std.specs.List.{sum_by}
use Rattle.btr_space_items.specs.btrfs_format.declared.flag.TheConstants.{BLOCK_GROUP_DATA, BLOCK_GROUP_METADATA, BLOCK_GROUP_SYSTEM}
use Rattle.btr_space_items.specs.btrfs_format.declared.key.TheConstants.{CHUNK_ITEM, DEV_EXTENT, DEV_ITEM}
use Rattle.btr_space_items.specs.btrfs_format.declared.object.TheConstants.{CHUNK_TREE, DEV_ITEMS_OBJECTID, EXTENT_TREE, FIRST_CHUNK_TREE_OBJECTID}
use Rattle.btr_tree.specs.vol_block.declared.ids.Ids.{Ids}
use Rattle.btr_tree.specs.btr_keys.Key.{make_key}
use Rattle.btr_tree.specs.btr_node.Leaf.{Item}
use Rattle.btr_space_items.specs.Chunk.{chunk_bytes}
use Rattle.btr_space_items.specs.DevExtent.{dev_extent_bytes}
use Rattle.btr_space_items.specs.Device.{device_bytes}
use Rattle.btr_space_items.specs.declared.chunk.Chunk.{Chunk}
use Rattle.btr_space_items.specs.declared.dev_extent.DevExtent.{DevExtent}
use Rattle.btr_space_items.specs.declared.device.Device.{Device}
use Rattle.unit_plan.specs.declared.chunk.PlannedChunk.{PlannedChunk}
use Rattle.unit_plan.specs.declared.chunk.Role.{Role}
use Rattle.unit_plan.specs.declared.chunk.Role.TheVariants.{System, Metadata, Data}

-- the number of a chunk's use
abbrev pub chunk_kind : Role → ℕ
chunk_kind Data = BLOCK_GROUP_DATA
chunk_kind System = BLOCK_GROUP_SYSTEM
chunk_kind Metadata = BLOCK_GROUP_METADATA

-- A chunk of one stripe on device 1. An address in it is its place on the device.
abbrev pub chunk_body : Ids → PlannedChunk → Chunk
chunk_body ids c = record {
  length = 4096 * c.length;
  owner = EXTENT_TREE;
  stripe_len = 65536;
  kind = chunk_kind c.role;
  io_align = 4096;
  io_width = 4096;
  sector_size = 4096;
  num_stripes = 1;
  sub_stripes = 0;
  stripe = record { devid = 1; offset = 4096 * c.start; device_uuid = ids.device };
}

abbrev pub chunk_item : Ids → PlannedChunk → Item
chunk_item ids c = (make_key FIRST_CHUNK_TREE_OBJECTID CHUNK_ITEM (4096 * c.start), chunk_bytes (chunk_body ids c))

-- the device of a volume of so many blocks
abbrev pub device_body : Ids → ℕ → List PlannedChunk → Device
device_body ids blocks chunks = record {
  devid = 1;
  total_bytes = 4096 * blocks;
  bytes_used = 4096 * sum_by (λ c. c.length) chunks;
  io_align = 4096;
  io_width = 4096;
  sector_size = 4096;
  kind = 0;
  generation = 0;
  start_offset = 0;
  dev_group = 0;
  seek_speed = 0;
  bandwidth = 0;
  uuid = ids.device;
  fsid = ids.fsid;
}

-- The chunk tree: the device, and the chunks.
abbrev pub chunk_items : Ids → ℕ → List PlannedChunk → List Item
chunk_items ids blocks chunks = (make_key DEV_ITEMS_OBJECTID DEV_ITEM 1, device_bytes (device_body ids blocks chunks)) ∷ map (chunk_item ids) chunks

abbrev pub dev_extent_body : Ids → PlannedChunk → DevExtent
dev_extent_body ids c = record {
  chunk_tree = CHUNK_TREE;
  chunk_objectid = FIRST_CHUNK_TREE_OBJECTID;
  chunk_offset = 4096 * c.start;
  length = 4096 * c.length;
  chunk_tree_uuid = ids.chunk_tree;
}

abbrev pub dev_extent_item : Ids → PlannedChunk → Item
dev_extent_item ids c = (make_key 1 DEV_EXTENT (4096 * c.start), dev_extent_bytes (dev_extent_body ids c))

-- The device tree: what each chunk takes of the device.
abbrev pub device_items : Ids → List PlannedChunk → List Item
device_items ids chunks = map (dev_extent_item ids) chunks

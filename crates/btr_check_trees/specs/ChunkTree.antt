-- What the chunk tree tells of the chunks and of the device, and what of it is wrong.
use Rattle.std.specs.Prelude.{◌≡◌, ◌↔◌, ℕ, true, List, map, All, Contains}
use Rattle.btr_check_rules.specs.btr_reader.btr_space_items.btrfs_format.declared.block.TheConstants.{SUPER_INFO_OFFSET}
use Rattle.btr_check_rules.specs.btr_reader.btr_space_items.btrfs_format.declared.key.TheConstants.{DEV_ITEM}
use Rattle.btr_check_rules.specs.btr_reader.btr_space_items.btrfs_format.declared.object.TheConstants.{CHUNK_TREE}
use Rattle.btr_check_rules.specs.btr_reader.btr_node.Leaf.{Item}
use Rattle.btr_check_rules.specs.btr_reader.btr_reader_walk.Events.{TreeItem}
use Rattle.btr_check_rules.specs.btr_reader.btr_reader_walk.Tree.{bare_item}
use Rattle.btr_check_rules.specs.btr_reader.btr_super.declared.superblock.Super.{Super}
use Rattle.btr_check_rules.specs.btr_reader.declared.chunk.ChunkAt.{ChunkAt}
use Rattle.btr_check_rules.specs.btr_reader.Opening.{boot_chunks, boot_list}
use Rattle.btr_check_rules.specs.btr_reader.outside.History.{Image}
use Rattle.btr_check_rules.specs.Groups.{AreChunksApart, IsChunkTreeItem, dev_items}
use Rattle.btr_check_rules.specs.Recount.{EachAt, chunks_on, of_kind, recount}
use Rattle.btr_check_rules.specs.Sound.{Chunks, Trees, part_number}
use Rattle.btr_check_rules.specs.Trees.{IsArray, IsSoundAt, KeepsSuper, has_own_tree, system_chunks}
use Rattle.btr_check_fields.specs.Devices.{FindsDevices}
use Rattle.btr_check_fields.specs.Failing.{FailsOf}
use Rattle.btr_check_fields.specs.Noted.{offset_of}
use Rattle.btr_check_trees.specs.declared.chunk_items.ChunkItems.{ChunkItems}
use Rattle.btr_check_trees.specs.declared.chunk_tree.ChunksFound.{ChunksFound}

-- ---- item by item

-- The chunks, the system chunks of the tree and its device items are those of these items, and each of these is of a
-- chunk or the device.
pub record TellsChunks (v : ChunkItems) (items : List Item) : Type 0 where
  pub chunks_are : v.chunks.items ≡ chunks_on v.boot.now items
  pub system_are : v.system.items ≡ system_chunks items
  pub devices_are : FindsDevices v.sup.now (of_kind DEV_ITEM items) v.devices
  pub keys : All IsChunkTreeItem items

-- The same after these items of the tree, with the superblock and the array that it began with.
pub record HoldsChunks (begun now : ChunkItems) (items : List TreeItem) : Type 0 where
  pub sup : now.sup.now ≡ begun.sup.now
  pub boot : now.boot.now ≡ begun.boot.now
  pub tells : TellsChunks now (map bare_item items)

-- All items of the chunk tree of this disk were met, and nothing is wrong with its nodes.
pub record WalksChunks (image : Image) (v : ChunkItems) : Type 0 where
  pub sup : v.sup.now ≡ (recount image).super
  pub boot : v.boot.now ≡ boot_list (boot_chunks (recount image).super)
  pub tells : TellsChunks v (recount image).chunk_tree.items
  pub sound : (a : ℕ) → IsSoundAt image (recount image) a (recount image).chunk_tree

-- an item is of no chunk, and not of the device
abbrev pub RefusesChunks : List TreeItem → ℕ → ℕ → Type 0
RefusesChunks items part address = (part ≡ part_number Chunks) × FailsOf offset_of IsChunkTreeItem (map bare_item items) address

-- ---- what is asked of all together

-- the chunks of the array are the system chunks of the tree
abbrev pub AreSystem : List ChunkAt → List ChunkAt → Type 0
AreSystem boot system = (c : ChunkAt) → Contains boot c ↔ Contains system c

-- The superblock's fields and its array, and the chunks, are as a sound volume has them.
pub record AreSoundChunks (s : Super) (boot system chunks : List ChunkAt) : Type 0 where
  pub super : KeepsSuper s
  pub array : AreSystem boot system
  pub apart : (a : ℕ) → AreChunksApart s chunks a

-- One of these is not so: in part 1 at the superblock, in part 7 where a chunk is.
pub data FailsChunks (s : Super) (boot system chunks : List ChunkAt) (part address : ℕ) : Type 0 where
  bad_super : part ≡ part_number Trees → address ≡ SUPER_INFO_OFFSET → ¬ KeepsSuper s → FailsChunks s boot system chunks part address
  bad_array : part ≡ part_number Trees → address ≡ SUPER_INFO_OFFSET → ¬ AreSystem boot system → FailsChunks s boot system chunks part address
  overlap : part ≡ part_number Chunks → ¬ AreChunksApart s chunks address → FailsChunks s boot system chunks part address

-- ---- the tree

-- The chunks of the volume, its device items, and what parts 1 and 7 ask of the chunk tree, of the chunks and of the
-- superblock, at all addresses.
pub record KeepsChunkTree (image : Image) (f : ChunksFound) : Type 0 where
  pub chunks : f.chunks.items ≡ (recount image).chunks
  pub devices : FindsDevices (recount image).super (dev_items (recount image)) f.devices
  pub super : KeepsSuper (recount image).super
  pub array : IsArray (recount image)
  pub sound : (a : ℕ) → IsSoundAt image (recount image) a (recount image).chunk_tree
  pub kinds : All (λ i. has_own_tree CHUNK_TREE i ≡ true) (recount image).chunk_tree.items
  pub apart : (a : ℕ) → AreChunksApart (recount image).super (recount image).chunks a
  pub keys : (a : ℕ) → EachAt offset_of a IsChunkTreeItem (recount image).chunk_tree.items

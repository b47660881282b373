-- Parts 6, 7 and 9: block groups and device extents are the chunks, and the sums are right. Parts 6 and 7 fail at the address of a
-- chunk, a block group or a device extent, part 9 at the address of the superblock.
use Rattle.std.specs.Option.{option_map_or}
use Rattle.std.specs.Prelude.{◌≡◌, ◌≢◌, ◌⊎◌, ◌≤◌, ◌<◌, ◌↔◌, ℕ, ◌+◌, ◌*◌, ◌^◌, ◌%◌, true, List, [], ◌∷◌, filter, Option, Some, None, All, AllPairs, Contains, length, map}
use Rattle.std.specs.List.{sum_by, flat_map}
use Rattle.btr_reader_walk.specs.btrfs_format.declared.block.TheConstants.{SUPER_INFO_OFFSET}
use Rattle.btr_reader_walk.specs.btrfs_format.declared.key.TheConstants.{BLOCK_GROUP_ITEM, DEV_EXTENT, DEV_ITEM}
use Rattle.btr_reader_walk.specs.btrfs_format.declared.object.TheConstants.{CHUNK_TREE, DEV_ITEMS_OBJECTID, DEV_TREE, EXTENT_TREE, FIRST_CHUNK_TREE_OBJECTID}
use Rattle.btr_reader.specs.btr_node.Leaf.{Item}
use Rattle.btr_reader.specs.btr_space_items.BlockGroup.{block_group_of}
use Rattle.btr_reader.specs.btr_space_items.DevExtent.{dev_extent_of}
use Rattle.btr_reader.specs.btr_space_items.Device.{device_of}
use Rattle.btr_reader.specs.btr_space_items.declared.dev_extent.DevExtent.{DevExtent}
use Rattle.btr_reader.specs.btr_space_items.declared.device.Device.{Device}
use Rattle.btr_reader.specs.btr_space_items.declared.stripe.Stripe.{Stripe}
use Rattle.btr_reader.specs.btr_super.declared.superblock.Super.{Super}
use Rattle.btr_reader.specs.Chunks.{is_chunk_key}
use Rattle.btr_reader.specs.Opening.{form_of}
use Rattle.btr_reader.specs.declared.chunk.ChunkAt.{ChunkAt}
use Rattle.btr_check_rules.specs.Recount.{Recount, DataUse, EachAt, PairsAt, data_uses, is_within, nodes_met, object_of, of_kind, recounted_items, span_of}
use Rattle.btr_check_rules.specs.declared.span.Span.{Span}

-- ---- block groups

abbrev pub chunk_span : ChunkAt → Span
chunk_span c = record { start = c.logical; length = c.chunk.length }

-- the disk ranges of data, each once
abbrev pub AreRanges : Recount → List Span → Type 0
AreRanges r spans =
    AllPairs (λ a b. a ≡ b → ⊥) spans
    × ((s : Span) → Contains spans s ↔ ((u : DataUse) × Contains (data_uses r) u × (s ≡ span_of u)))

-- the bytes of the extents that begin in a range; a node that trees share counts once
abbrev pub node_bytes_in : Recount → Span → ℕ
node_bytes_in r span = sum_by (λ n. r.super.nodesize) (filter (is_within span) (nodes_met r))

abbrev pub data_bytes_in : List Span → Span → ℕ
data_bytes_in spans span = sum_by (λ s. s.length) (filter (λ s. is_within span s.start) spans)

abbrev pub bytes_used_in : Recount → List Span → ChunkAt → ℕ
bytes_used_in r spans c = node_bytes_in r (chunk_span c) + data_bytes_in spans (chunk_span c)

-- the block group of a chunk in which so many bytes are used
pub record IsGroupOf (used : ℕ) (c : ChunkAt) (i : Item) : Type 0 where
  pub key : i.0 ≡ record { objectid = c.logical; kind = BLOCK_GROUP_ITEM; offset = c.chunk.length }
  pub body : block_group_of i.1 ≡ Some (record { used = used; chunk_objectid = FIRST_CHUNK_TREE_OBJECTID; flags = c.chunk.kind })

-- Each chunk has its block group, and each block group is that of a chunk (check_chunk_refs of `btrfs check`).
pub record AreGroupsOf (used : ChunkAt → ℕ) (chunks : List ChunkAt) (groups : List Item) (a : ℕ) : Type 0 where
  pub each : EachAt object_of a (λ i. (c : ChunkAt) × Contains chunks c × IsGroupOf (used c) c i) groups
  pub whole : EachAt (λ (c : ChunkAt). c.logical) a (λ c. (i : Item) × Contains groups i × IsGroupOf (used c) c i) chunks

abbrev pub groups : Recount → List Item
groups r = of_kind BLOCK_GROUP_ITEM (recounted_items r EXTENT_TREE)

-- What part 6 asks: block groups are those of the chunks, and tell the bytes that extents take.
pub record KeepsBlockGroups (r : Recount) (a : ℕ) : Type 0 where
  pub spans : List Span
  pub ranges : AreRanges r spans
  pub groups_are : AreGroupsOf (bytes_used_in r spans) r.chunks (groups r) a

-- ---- chunks

-- the stripes of a chunk: one, or two in DUP
abbrev pub second_of : Option Stripe → List Stripe
second_of None = []
second_of (Some stripe) = stripe ∷ []

abbrev pub stripes_of : ChunkAt → List Stripe
stripes_of c = c.chunk.stripe ∷ second_of c.mirror

-- where on the device a chunk lies
abbrev pub stripe_span : ℕ → Stripe → Span
stripe_span length s = record { start = s.offset; length = length }

abbrev pub stripe_spans : ChunkAt → List Span
stripe_spans c = map (stripe_span c.chunk.length) (stripes_of c)

-- the device extent of a chunk: where a stripe of it lies, and that it is the chunk's
pub record IsExtentOf (c : ChunkAt) (stripe : Stripe) (i : Item) : Type 0 where
  pub key : i.0 ≡ record { objectid = stripe.devid; kind = DEV_EXTENT; offset = stripe.offset }
  pub extent : DevExtent
  pub extent_is : dev_extent_of i.1 ≡ Some extent
  pub chunk : (extent.chunk_tree ≡ CHUNK_TREE) × (extent.chunk_objectid ≡ FIRST_CHUNK_TREE_OBJECTID) × (extent.chunk_offset ≡ c.logical)
  pub length : extent.length ≡ c.chunk.length

abbrev pub dev_extents : Recount → List Item
dev_extents r = of_kind DEV_EXTENT (recounted_items r DEV_TREE)

abbrev pub Apart : Span → Span → Type 0
Apart a b = (a.start + a.length ≤ b.start) ⊎ (b.start + b.length ≤ a.start)

-- a stripe of so many bytes lies on the volume's device, and within its bytes (read_one_chunk,
-- btrfs_verify_dev_extents)
pub record IsStripe (s : Super) (length : ℕ) (stripe : Stripe) : Type 0 where
  pub device : (stripe.devid ≡ s.dev_item.devid) × (stripe.device_uuid ≡ s.dev_item.uuid)
  pub start : stripe.offset % 4096 ≡ 0
  pub inside : stripe.offset + length ≤ s.total_bytes

-- A chunk, as the tree-checker wants it (btrfs_check_chunk_valid).
pub record IsChunkOn (s : Super) (c : ChunkAt) : Type 0 where
  pub sectors : c.chunk.sector_size ≡ 4096
  pub stripe_len : c.chunk.stripe_len ≡ 65536
  pub some : c.chunk.length ≢ 0
  pub whole : (c.logical % 4096 ≡ 0) × (c.chunk.length % 4096 ≡ 0)
  pub ends : c.logical + c.chunk.length < 2 ^ 64
  pub stripes : All (IsStripe s c.chunk.length) (stripes_of c)

-- the chunk tree has the device and chunks, and nothing else (read_one_chunk looks at no other)
abbrev pub IsChunkTreeItem : Item → Type 0
IsChunkTreeItem i = (i.0.kind ≡ DEV_ITEM) ⊎ (is_chunk_key i.0 ≡ true)

-- Chunks are valid, and overlap neither by their addresses nor on the device.
pub record AreChunksApart (s : Super) (chunks : List ChunkAt) (a : ℕ) : Type 0 where
  pub valid : EachAt (λ (c : ChunkAt). c.logical) a (IsChunkOn s) chunks
  pub logical : PairsAt (λ (s : Span). s.start) a Apart (map chunk_span chunks)
  pub physical : PairsAt (λ (s : Span). s.start) a Apart (flat_map stripe_spans chunks)

-- A device extent is that of a stripe, and each stripe has its device extent.
abbrev pub IsOfChunk : List ChunkAt → Item → Type 0
IsOfChunk chunks i = (c : ChunkAt) × (s : Stripe) × Contains chunks c × Contains (stripes_of c) s × IsExtentOf c s i

abbrev pub HasExtents : List Item → ChunkAt → Type 0
HasExtents extents c = All (λ s. (i : Item) × Contains extents i × IsExtentOf c s i) (stripes_of c)

pub record AreExtentsOf (chunks : List ChunkAt) (extents : List Item) (a : ℕ) : Type 0 where
  pub each : EachAt (λ (i : Item). i.0.offset) a (IsOfChunk chunks) extents
  pub whole : EachAt (λ (c : ChunkAt). c.logical) a (HasExtents extents) chunks

-- What part 7 asks, at the address of a chunk or at the place of a device extent.
pub record KeepsChunks (r : Recount) (a : ℕ) : Type 0 where
  pub apart : AreChunksApart r.super r.chunks a
  pub keys : EachAt (λ (i : Item). i.0.offset) a IsChunkTreeItem r.chunk_tree.items
  pub extents : AreExtentsOf r.chunks (dev_extents r) a

-- ---- totals

-- the bytes of all stripes
abbrev pub stripe_bytes : List ChunkAt → ℕ
stripe_bytes chunks = sum_by (λ c. c.chunk.length * length (stripes_of c)) chunks

-- the device's item tells the volume that nodes name, its length, and the bytes of all stripes (btrfs_validate_super,
-- check_device_used)
pub record TellsDevice (s : Super) (chunks : List ChunkAt) (d : Device) : Type 0 where
  pub fsid : d.fsid ≡ (form_of s).fsid
  pub total : d.total_bytes ≡ s.total_bytes
  pub used : d.bytes_used ≡ stripe_bytes chunks

abbrev pub dev_items : Recount → List Item
dev_items r = of_kind DEV_ITEM r.chunk_tree.items

abbrev pub group_used : Item → ℕ
group_used i = option_map_or (λ g. g.used) (block_group_of i.1) 0

-- an item is the device's, under its number (check_dev_item), and the same as in the superblock (read_one_dev)
pub record IsDeviceItem (s : Super) (i : Item) : Type 0 where
  pub key : i.0 ≡ record { objectid = DEV_ITEMS_OBJECTID; kind = DEV_ITEM; offset = s.dev_item.devid }
  pub body : device_of i.1 ≡ Some s.dev_item

-- there is one device item
abbrev pub IsOnlyDevice : Super → List Item → Type 0
IsOnlyDevice s devices = (i : Item) × (devices ≡ i ∷ []) × IsDeviceItem s i

-- the superblock tells the sum of what block groups have used ("super bytes used mismatches" of `btrfs check`)
pub record AreTotals (s : Super) (chunks : List ChunkAt) (groups devices : List Item) : Type 0 where
  pub used : s.bytes_used ≡ sum_by group_used groups
  pub device : TellsDevice s chunks s.dev_item
  pub one : IsOnlyDevice s devices

-- What part 9 asks, at the superblock alone.
abbrev pub KeepsTotals : Recount → ℕ → Type 0
KeepsTotals r a = a ≡ SUPER_INFO_OFFSET → AreTotals r.super r.chunks (groups r) (dev_items r)

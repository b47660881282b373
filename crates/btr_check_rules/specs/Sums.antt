-- Part 5: data has its checksums. It fails at the address of a block.
use Rattle.std.specs.Prelude.{◌≡◌, ◌≢◌, ◌≤◌, ◌<◌, ℕ, ◌+◌, ◌-◌, ◌*◌, ◌/◌, ◌%◌, ◌==◌, true, false, if◌then◌else◌, List, length, take, drop, Some, All, Contains}
use Rattle.btr_reader_walk.specs.btrfs_format.declared.key.TheConstants.{EXTENT_CSUM}
use Rattle.btr_reader_walk.specs.btrfs_format.declared.object.TheConstants.{CSUM_TREE, DATA_RELOC_TREE, EXTENT_CSUM_OBJECTID}
use Rattle.btr_reader_walk.specs.btrfs_format.declared.size.TheConstants.{HEADER_SIZE, ITEM_SIZE}
use Rattle.btr_reader.specs.outside.History.{Image, block_at}
use Rattle.btr_reader.specs.csum_kinds.Kind.{kind_sum, kind_width}
use Rattle.btr_reader.specs.csum_kinds.declared.kind.SumKind.{SumKind}
use Rattle.btr_reader.specs.btr_keys.declared.inode.Inode.{Inode}
use Rattle.btr_reader.specs.btr_node.Leaf.{Item}
use Rattle.btr_reader.specs.Opening.{form_of}
use Rattle.btr_reader.specs.btr_reader_walk.Map.{place}
use Rattle.btr_check_rules.specs.Inodes.{HasInode, has_no_sums}
use Rattle.btr_check_rules.specs.Recount.{Recount, TreeOn, DataUse, EachAt, PairsAt, data_uses, file_trees, is_within, map_of, recounted_items, span_of, uses_in}
use Rattle.btr_check_rules.specs.declared.span.Span.{Span}

-- ---- checksum items

abbrev pub sums_of : Recount → SumKind
sums_of r = (form_of r.super).sums

abbrev pub sum_items : Recount → List Item
sum_items r = recounted_items r CSUM_TREE

-- how many blocks an item has checksums of, and where they end
abbrev pub sum_count : SumKind → Item → ℕ
sum_count sums i = length i.1 / kind_width sums

abbrev pub sum_end : SumKind → Item → ℕ
sum_end sums i = i.0.offset + 4096 * sum_count sums i

-- the most checksums that Linux puts into one item ("csum too large"; MAX_CSUM_ITEMS)
abbrev pub most_sums : ℕ → SumKind → ℕ
most_sums nodesize sums = (nodesize - (HEADER_SIZE + 2 * ITEM_SIZE)) / kind_width sums - 1

-- an item of the checksum tree: whole checksums of blocks from an address on (check_csum_item)
pub record IsSumItem (nodesize : ℕ) (sums : SumKind) (i : Item) : Type 0 where
  pub objectid : i.0.objectid ≡ EXTENT_CSUM_OBJECTID
  pub kind : i.0.kind ≡ EXTENT_CSUM
  pub start : i.0.offset % 4096 ≡ 0
  pub whole : length i.1 % kind_width sums ≡ 0
  pub count : (1 ≤ sum_count sums i) × (sum_count sums i ≤ most_sums nodesize sums)

-- the block at an address has a checksum
pub record HasBlockSum (r : Recount) (a : ℕ) : Type 0 where
  pub item : Item
  pub there : Contains (sum_items r) item
  pub low : item.0.offset ≤ a
  pub high : a < sum_end (sums_of r) item

-- ---- what refers to a block

-- the bytes that are read for a file extent: its part of the disk extent, and of a compressed one all of that
abbrev pub read_span : DataUse → Span
read_span u = if u.compression == 0 then record { start = u.start + u.part; length = u.part_length } else span_of u

-- The block at an address is read for a file extent of this inode. The tree that a balance of data uses is left out, as in
-- `btrfs check`.
pub record IsReadBy (r : Recount) (a : ℕ) (u : DataUse) (inode : Inode) : Type 0 where
  pub tree : TreeOn
  pub among : Contains (file_trees r) tree
  pub lasting : tree.number ≢ DATA_RELOC_TREE
  pub used : Contains (uses_in tree) u
  pub owner : HasInode tree u.inode inode
  pub here : is_within (read_span u) a ≡ true

-- a file extent with written bytes has the disk extent
abbrev pub IsWrittenTo : Recount → ℕ → Type 0
IsWrittenTo r start = (t : TreeOn) × (u : DataUse) × Contains (file_trees r) t × Contains (uses_in t) u × (u.start ≡ start) × (u.written ≡ true)

-- ---- the part

-- Checksum number k of an item is that of the block at its address, where that lies in a chunk.
abbrev pub IsSumRight : Image → Recount → ℕ → Item → Type 0
IsSumRight image r a i =
    (k p : ℕ) → k < sum_count (sums_of r) i → i.0.offset + 4096 * k ≡ a → place (map_of r) a ≡ Some p
    → take (kind_width (sums_of r)) (drop (kind_width (sums_of r) * k) i.1) ≡ take (kind_width (sums_of r)) (kind_sum (sums_of r) (block_at image (p / 4096)))

-- Data that files refer to has checksums (I_ERR_SOME_CSUM_MISSING of `btrfs check`), but not where it belongs to an inode without
-- them, or is laid out alone (I_ERR_ODD_CSUM_ITEM). What has them is data.
pub record KeepsCover (r : Recount) (a : ℕ) : Type 0 where
  pub wanted : (u : DataUse) (inode : Inode) → IsReadBy r a u inode → u.written ≡ true → has_no_sums inode ≡ false → HasBlockSum r a
  pub unsummed : (u : DataUse) (inode : Inode) → IsReadBy r a u inode → u.written ≡ true → has_no_sums inode ≡ true → ¬ HasBlockSum r a
  pub unwritten : (u : DataUse) (inode : Inode) → IsReadBy r a u inode → u.written ≡ false → ¬ IsWrittenTo r u.start → ¬ HasBlockSum r a
  pub inside : HasBlockSum r a → (u : DataUse) × Contains (data_uses r) u × (is_within (span_of u) a ≡ true)

-- What part 5 asks at the address of a block.
pub record KeepsSums (image : Image) (r : Recount) (a : ℕ) : Type 0 where
  pub forms : EachAt (λ (i : Item). i.0.offset) a (IsSumItem r.super.nodesize (sums_of r)) (sum_items r)
  -- no block has two checksums ("csum overlap" of `btrfs check`)
  pub once : PairsAt (λ (i : Item). i.0.offset) a (λ i j. sum_end (sums_of r) i ≤ j.0.offset) (sum_items r)
  pub cover : a % 4096 ≡ 0 → KeepsCover r a
  pub right : All (IsSumRight image r a) (sum_items r)

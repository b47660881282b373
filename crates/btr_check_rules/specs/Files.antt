-- Part 2 too: in each file tree file extents keep the rules of Linux.
use Rattle.std.specs.Prelude.{◌≡◌, ◌≢◌, ◌↔◌, ◌≤◌, ◌<◌, ℕ, ◌+◌, ◌*◌, ◌/◌, ◌%◌, ◌^◌, true, false, length, Some, All, AllPairs, Any}
use Rattle.btr_reader_walk.specs.btrfs_format.declared.feature.TheConstants.{NO_HOLES}
use Rattle.btr_reader.specs.fs_rows.Kinds.{has_bytes}
use Rattle.btr_reader.specs.fs_rows.declared.row.Kind.{Kind}
use Rattle.btr_reader.specs.btr_keys.FileExtent.{ContentValue, Inline, Regular, Prealloc, FileExtentValue, file_extent_of}
use Rattle.btr_reader.specs.btr_keys.declared.file_extent.DiskRange.{DiskRange}
use Rattle.btr_reader.specs.btr_keys.declared.inode.Inode.{Inode}
use Rattle.btr_reader.specs.btr_node.Leaf.{Item}
use Rattle.btr_reader.specs.btr_reader_contents.Extents.{is_hole}
use Rattle.btr_reader.specs.btr_reader_names.Inodes.{kind_of_mode}
use Rattle.btr_reader.specs.btr_super.declared.superblock.Super.{Super}
use Rattle.btr_check_rules.specs.Inodes.{HasInode, HasKind, extents_in, has_no_sums}
use Rattle.btr_check_rules.specs.Recount.{TreeOn, has_feature}

-- The part of a disk extent that a file has: whole blocks, in what the extent has in memory, and where it is not
-- compressed in what it has on the disk (check_extent_data_item; I_ERR_BAD_FILE_EXTENT of `btrfs check`). A hole has
-- no place on the disk.
pub record IsRange (ram compression : ℕ) (d : DiskRange) : Type 0 where
  pub whole : (d.disk_bytenr % 4096 ≡ 0) × (d.disk_num_bytes % 4096 ≡ 0) × (d.offset % 4096 ≡ 0) × (d.num_bytes % 4096 ≡ 0) × (ram % 4096 ≡ 0)
  pub some : d.num_bytes ≢ 0
  pub in_memory : d.offset + d.num_bytes ≤ ram
  pub on_disk : is_hole d ≡ false → compression ≡ 0 → d.offset + d.num_bytes ≤ d.disk_num_bytes
  pub hole : is_hole d ≡ true ↔ (d.disk_num_bytes ≡ 0)

-- what is compressed has a place on the disk, and there fewer bytes than its 128 KiB or less (compress_file_range)
pub record IsCompressed (ram : ℕ) (d : DiskRange) : Type 0 where
  pub place : is_hole d ≡ false
  pub most : ram ≤ 131072
  pub fewer : d.disk_num_bytes < ram

-- An inline extent begins the file, and tells its bytes; compressed it stands for one block at most
-- (check_extent_data_item; I_ERR_INLINE_RAM_BYTES_WRONG of `btrfs check`). What is preallocated is not compressed.
abbrev pub KeepsContent : ℕ → ℕ → ℕ → ContentValue → Type 0
KeepsContent place ram compression (Inline bytes) = (place ≡ 0) × (1 ≤ ram) × (ram ≤ 4096) × (length bytes < 4096) × (compression ≡ 0 → ram ≡ length bytes)
KeepsContent place ram compression (Regular d) = IsRange ram compression d × (compression ≢ 0 → IsCompressed ram d)
KeepsContent place ram compression (Prealloc d) = IsRange ram compression d × (compression ≡ 0)

-- data that is compressed on the disk has checksums (I_ERR_BAD_FILE_EXTENT of `btrfs check`)
abbrev pub NeedsSums : ℕ → ContentValue → Type 0
NeedsSums compression (Inline bytes) = ⊥
NeedsSums compression (Regular d) = compression ≢ 0
NeedsSums compression (Prealloc d) = compression ≢ 0

-- A file extent: not newer than the superblock, not encrypted, of a compression that Linux knows
-- (check_extent_data_item), and of a file or a symlink (I_ERR_ODD_FILE_EXTENT of `btrfs check`).
pub record KeepsExtent (s : Super) (t : TreeOn) (i : Item) : Type 0 where
  pub extent : FileExtentValue
  pub reads : file_extent_of i.1 ≡ Some extent
  pub generation : extent.generation ≤ s.generation
  pub encoding : (extent.encryption ≡ 0) × (extent.other ≡ 0) × (extent.compression ≤ 3)
  pub place : i.0.offset % 4096 ≡ 0
  pub content : KeepsContent i.0.offset extent.ram_bytes extent.compression extent.content
  pub sums : NeedsSums extent.compression extent.content → (inode : Inode) → HasInode t i.0.objectid inode → has_no_sums inode ≡ false
  pub owner : (kind : Kind) × HasKind t i.0.objectid kind × (has_bytes kind ≡ true)

-- how many bytes of the file an extent stands for: an inline one for whole blocks
abbrev pub covered : ℕ → ContentValue → ℕ
covered ram (Inline bytes) = 4096 * ((ram + 4095) / 4096)
covered ram (Regular d) = d.num_bytes
covered ram (Prealloc d) = d.num_bytes

-- an extent ends in its file before another begins (check_extent_data_item; I_ERR_FILE_EXTENT_OVERLAP of `btrfs check`)
abbrev pub EndsBefore : Item → Item → Type 0
EndsBefore i j = (e : FileExtentValue) → file_extent_of i.1 ≡ Some e → i.0.offset + covered e.ram_bytes e.content ≤ j.0.offset

-- no file is longer than its numbers
abbrev pub EndsInFile : Item → Type 0
EndsInFile i = (e : FileExtentValue) → file_extent_of i.1 ≡ Some e → i.0.offset + covered e.ram_bytes e.content < 2 ^ 64

-- an extent stands for a byte of its file
abbrev pub HoldsByte : ℕ → Item → Type 0
HoldsByte k i = (e : FileExtentValue) × (file_extent_of i.1 ≡ Some e) × (i.0.offset ≤ k) × (k < i.0.offset + covered e.ram_bytes e.content)

-- What is asked of the extents of an inode.
pub record KeepsExtents (s : Super) (t : TreeOn) (a : ℕ) : Type 0 where
  pub each : All (KeepsExtent s t) (extents_in t a)
  pub apart : AllPairs EndsBefore (extents_in t a)
  pub ends : All EndsInFile (extents_in t a)
  -- without the feature no holes the extents of a file with names cover it (I_ERR_FILE_EXTENT_DISCOUNT of `btrfs
  -- check`)
  pub covering : has_feature s NO_HOLES ≡ false → (inode : Inode) (kind : Kind) → HasInode t a inode → kind_of_mode inode.mode ≡ Some kind → has_bytes kind ≡ true → inode.nlink ≢ 0
      → (k : ℕ) → k < inode.size → Any (HoldsByte k) (extents_in t a)

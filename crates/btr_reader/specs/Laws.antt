-- What holds of an opened volume.
use Rattle.std.specs.Prelude.{◌≡◌, ℕ, ◌+◌, ◌^◌, ◌≤◌, ◌<◌, AllPairs, Contains, List, ◌++◌, length, map, None, Some}
use Rattle.std.specs.List.{flat_map, AllByRecursion}
use Rattle.btr_space_items.specs.btrfs_format.declared.key.TheConstants.{CHUNK_ITEM}
use Rattle.btr_space_items.specs.btrfs_format.declared.object.TheConstants.{FIRST_CHUNK_TREE_OBJECTID}
use Rattle.btr_reader_walk.specs.btr_keys.Key.{key_bytes, make_key}
use Rattle.btr_space_items.specs.Chunk.{chunk_layout, chunk_bytes}
use Rattle.btr_reader.specs.declared.chunk.ChunkAt.{ChunkAt}
use Rattle.btr_reader_walk.specs.outside.History.{Image}
use Rattle.btr_super.specs.declared.superblock.Super.{Super}
use Rattle.btr_reader_walk.specs.declared.map.MapRange.{MapRange}
use Rattle.btr_reader_walk.specs.btr_keys.FileExtent.{FileExtentValue, file_extent_of}
use Rattle.btr_reader_walk.specs.Events.{TreeItem}
use Rattle.btr_reader_contents.specs.Blocks.{AreInBlocks}
use Rattle.btr_reader_contents.specs.Extents.{extents_of, extent_length, content_byte}
use Rattle.btr_reader_names.specs.Links.{IsNamedInode}
use Rattle.fs_paths.specs.fs_rows.Rows.{WholeRow}
use Rattle.btr_reader.specs.Opening.{IsBtrfsOpened, boot_chunks}
use Rattle.btr_reader.specs.Rows.{AreRows, AreBtrfsRows}

-- The ranges of its map begin and end with blocks, as its chunks do.
abbrev pub OpenedMapsAreInBlocks : Type 0
OpenedMapsAreInBlocks = (image : Image) (s : Super) (ranges : List MapRange) → IsBtrfsOpened image s ranges → AreInBlocks ranges

-- Two lists of rows of one volume are equal.
abbrev pub BtrfsRowsAreOne : Type 0
BtrfsRowsAreOne = (image : Image) (s : Super) (ranges : List MapRange) (rows others : List WholeRow) → AreBtrfsRows image s ranges rows → AreBtrfsRows image s ranges others → rows ≡ others

-- the address is in the range
pub record Maps (r : MapRange) (address : ℕ) : Type 0 where
  pub from : r.logical ≤ address
  pub below : address < r.logical + r.length

-- two ranges have no address in common
abbrev pub AreRangesApart : MapRange → MapRange → Type 0
AreRangesApart a b = (address : ℕ) → Maps a address → ¬ Maps b address

-- No address of an opened volume lies in two ranges.
abbrev pub OpenedMapsAreApart : Type 0
OpenedMapsAreApart = (image : Image) (s : Super) (ranges : List MapRange) → IsBtrfsOpened image s ranges → AllPairs AreRangesApart ranges

-- a chunk of one stripe in the bootstrap array: its key and its body
abbrev pub array_entry : ChunkAt → List ℕ
array_entry c = key_bytes (make_key FIRST_CHUNK_TREE_OBJECTID CHUNK_ITEM c.logical) ++ chunk_bytes c.chunk

-- its numbers fit their fields, and it has one stripe alone
pub record FitsArray (c : ChunkAt) : Type 0 where
  pub logical : c.logical < 2 ^ 64
  pub fields : chunk_layout.fits c.chunk
  pub single : c.chunk.num_stripes ≡ 1
  pub alone : c.mirror ≡ None

-- Chunks that were written into the bootstrap array of a superblock, one after the other, are its chunks, whatever stands behind them.
abbrev pub ArraysReadBack : Type 0
ArraysReadBack =
    (s : Super) (chunks : List ChunkAt) (behind : List ℕ) → AllByRecursion FitsArray chunks
    → s.sys_chunk_array ≡ flat_map array_entry chunks ++ behind → s.sys_chunk_array_size ≡ length (flat_map array_entry chunks)
    → boot_chunks s ≡ Some chunks

-- the items without the leaves that they lie in
abbrev pub unplaced : List TreeItem → List TreeItem
unplaced items = map (λ (i : TreeItem). record { leaf = 0; key = i.key; body = i.body }) items

-- The extents of named inodes have the same bytes over two disks, each by its map.
abbrev pub SameExtents : Image → List MapRange → Image → List MapRange → List TreeItem → Type 0
SameExtents image ranges other elsewhere items =
    (ino : ℕ) (i : TreeItem) (e : FileExtentValue) (k : ℕ) → IsNamedInode items ino → Contains (extents_of items ino) i → file_extent_of i.body ≡ Some e → k < extent_length e.content
    → content_byte other elsewhere e.content k ≡ content_byte image ranges e.content k

-- Keys and bodies of a tree's items decide its rows, with the bytes of the extents: not the leaves that the items lie in.
abbrev pub ItemsDecideBtrfsRows : Type 0
ItemsDecideBtrfsRows =
    (image other : Image) (ranges elsewhere : List MapRange) (items others : List TreeItem) (rows : List WholeRow) → unplaced items ≡ unplaced others → SameExtents image ranges other elsewhere items
    → AreRows image ranges items rows → AreRows other elsewhere others rows

-- Part 2 too: in each file tree inodes and what names them keep the rules of Linux.
use Rattle.std.specs.Prelude.{◌≡◌, ◌≢◌, ◌≤◌, ◌<◌, ℕ, ◌+◌, ◌-◌, ◌*◌, ◌%◌, ◌^◌, ◌==◌, Bool, true, false, bit_and, List, filter, length, IsTrue, is_some, Option, None, Some, Contains}
use Rattle.std.specs.List.{sum_by, count_by}
use Rattle.btr_reader_walk.specs.btrfs_format.declared.flag.TheConstants.{FT_BLKDEV, FT_CHRDEV, FT_DIR, FT_FIFO, FT_REG_FILE, FT_SOCK, FT_SYMLINK, INODE_APPEND, INODE_IMMUTABLE}
use Rattle.btr_reader_walk.specs.btrfs_format.declared.key.TheConstants.{EXTENT_DATA, INODE_ITEM, ORPHAN_ITEM}
use Rattle.btr_reader_walk.specs.btrfs_format.declared.object.TheConstants.{FIRST_FREE_OBJECTID}
use Rattle.btr_reader.specs.fs_rows.declared.row.Kind.{Kind}
use Rattle.btr_reader.specs.fs_rows.declared.row.Kind.TheVariants.{Directory, File, Symlink, Character, Block, Fifo, Socket, Subvolume}
use Rattle.btr_reader.specs.fs_rows.Kinds.{has_bytes}
use Rattle.btr_reader.specs.btr_keys.FileExtent.{ContentValue, Inline, Regular, Prealloc, FileExtentValue, file_extent_of}
use Rattle.btr_reader.specs.btr_keys.Inode.{inode_of}
use Rattle.btr_reader.specs.btr_keys.declared.inode.Inode.{Inode}
use Rattle.btr_reader.specs.btr_node.Leaf.{Item}
use Rattle.btr_reader.specs.btr_reader_contents.Extents.{range_covers}
use Rattle.btr_reader.specs.btr_reader_names.Inodes.{kind_of_mode}
use Rattle.btr_reader.specs.btr_super.declared.superblock.Super.{Super}
use Rattle.btr_check_rules.specs.Names.{IndexEntry, IsInodeNumber, IsThere, dir_of, index_entries, names_inode_item, ref_names}
use Rattle.btr_check_rules.specs.Recount.{TreeOn, EachAt, HasItem, object_of, of_kind}

-- ---- inodes and their kinds

-- the inode with a number, and what its item tells
pub record HasInode (t : TreeOn) (ino : ℕ) (inode : Inode) : Type 0 where
  pub body : List ℕ
  pub there : Contains t.items (record { objectid = ino; kind = INODE_ITEM; offset = 0 }, body)
  pub reads : inode_of body ≡ Some inode

abbrev pub HasKind : TreeOn → ℕ → Kind → Type 0
HasKind t ino kind = (inode : Inode) × HasInode t ino inode × (kind_of_mode inode.mode ≡ Some kind)

-- how an entry tells the kind of what it names (BTRFS_FT_REG_FILE and so on)
abbrev pub entry_type : Kind → ℕ
entry_type File = FT_REG_FILE
entry_type Directory = FT_DIR
entry_type Symlink = FT_SYMLINK
entry_type Character = FT_CHRDEV
entry_type Block = FT_BLKDEV
entry_type Fifo = FT_FIFO
entry_type Socket = FT_SOCK
entry_type Subvolume = FT_DIR

-- An entry stands in a directory (I_ERR_ODD_DIR_ITEM of `btrfs check`), and its type is the kind of the inode that it
-- names (REF_ERR_FILETYPE_UNMATCH), which is there (I_ERR_NO_INODE_ITEM).
pub record IsDirEntry (t : TreeOn) (e : IndexEntry) : Type 0 where
  pub directory : HasKind t e.entry.dir Directory
  pub inode : names_inode_item e ≡ true → (kind : Kind) × HasKind t e.entry.location.objectid kind × (e.entry.kind ≡ entry_type kind)

-- The directories above an inode come to an end: none stands below itself. No `rename` of Linux makes such a ring.
pub data ComesToEnd (t : TreeOn) : ℕ → Type 0 where
  unnamed : (ino : ℕ) → ((e : IndexEntry) → Contains (index_entries t) e → names_inode_item e ≡ true → e.entry.location.objectid ≢ ino) → ComesToEnd t ino
  below : (e : IndexEntry) → Contains (index_entries t) e → names_inode_item e ≡ true → ComesToEnd t e.entry.dir → ComesToEnd t e.entry.location.objectid

-- ---- what an inode tells

-- how many names an inode has
abbrev pub ref_name_count : TreeOn → ℕ → ℕ
ref_name_count t ino = count_by (λ n. n.inode == ino) (ref_names t)

-- twice the letters of a directory's names
abbrev pub directory_size : TreeOn → ℕ → ℕ
directory_size t ino = 2 * sum_by (λ e. length e.entry.name) (filter (λ e. e.entry.dir == ino) (index_entries t))

-- the items of an inode
abbrev pub is_of_inode : ℕ → Item → Bool
is_of_inode ino i = i.0.objectid == ino

-- the extents of an inode, in their order
abbrev pub extents_in : TreeOn → ℕ → List Item
extents_in t ino = filter (is_of_inode ino) (of_kind EXTENT_DATA t.items)

-- the bytes that a file extent adds to its inode's count: those in memory of an inline one, and those of the file that have
-- a place on the disk, written or not
abbrev pub extent_nbytes : ℕ → ContentValue → ℕ
extent_nbytes ram (Inline bytes) = ram
extent_nbytes ram (Regular d) = range_covers d
extent_nbytes ram (Prealloc d) = range_covers d

abbrev pub nbytes_of : Option FileExtentValue → ℕ
nbytes_of None = 0
nbytes_of (Some e) = extent_nbytes e.ram_bytes e.content

abbrev pub inode_nbytes : TreeOn → ℕ → ℕ
inode_nbytes t ino = sum_by (λ i. nbytes_of (file_extent_of i.1)) (extents_in t ino)

-- the item by which Linux ends the removal of an inode (BTRFS_ORPHAN_OBJECTID is 2^64 - 5)
abbrev pub HasOrphan : TreeOn → ℕ → Type 0
HasOrphan t ino = HasItem t.items (2 ^ 64 - 5) ORPHAN_ITEM ino

-- data of the inode has no checksums
abbrev pub has_no_sums : Inode → Bool
has_no_sums inode = inode.flags % 2 == 1

-- all flags that Linux knows (BTRFS_INODE_FLAG_MASK, and that of fs-verity)
abbrev pub other_flags : ℕ
other_flags = 2 ^ 64 - 1 - (2 ^ 12 - 1 + 2 ^ 31 + 2 ^ 32)

-- The mode has a known kind, and no other bits than those of kinds and rights; the flags are known, only a file's data may
-- be without checksums, and no symlink is immutable or append-only (I_ERR_ODD_INODE_FLAGS of `btrfs check`); it is at most
-- one transaction newer than the superblock, and a directory has at most one link (check_inode_item).
pub record KeepsFields (s : Super) (inode : Inode) : Type 0 where
  pub kind : IsTrue (is_some (kind_of_mode inode.mode))
  pub bits : inode.mode < 2 ^ 16
  pub generation : (inode.generation ≤ s.generation + 1) × (inode.transid ≤ s.generation + 1)
  pub flags : bit_and inode.flags other_flags ≡ 0
  pub sums : has_no_sums inode ≡ true → kind_of_mode inode.mode ≡ Some File
  pub symlink : kind_of_mode inode.mode ≡ Some Symlink → bit_and inode.flags (INODE_IMMUTABLE + INODE_APPEND) ≡ 0
  pub directory : kind_of_mode inode.mode ≡ Some Directory → inode.nlink ≤ 1

-- Its links are its names (I_ERR_LINK_COUNT_WRONG), and one without names has an orphan item (I_ERR_NO_ORPHAN_ITEM). A
-- directory's size is twice the letters of its names (I_ERR_DIR_ISIZE_WRONG); a file or symlink with a name tells the bytes of its
-- extents (I_ERR_FILE_NBYTES_WRONG).
pub record TellsCounts (t : TreeOn) (ino : ℕ) (inode : Inode) : Type 0 where
  pub links : inode.nlink ≡ ref_name_count t ino
  pub orphan : ref_name_count t ino ≡ 0 → HasOrphan t ino
  pub size : kind_of_mode inode.mode ≡ Some Directory → inode.size ≡ directory_size t ino
  pub bytes : (kind : Kind) → kind_of_mode inode.mode ≡ Some kind → has_bytes kind ≡ true → inode.nlink ≢ 0 → inode.nbytes ≡ inode_nbytes t ino

-- ---- the part

abbrev pub is_orphan : Item → Bool
is_orphan i = i.0.kind == ORPHAN_ITEM

-- What is asked of an inode: its fields and counts, that each item of it has an inode item (check_prev_ino), a number that
-- inodes may have, and that inode 256 is the root directory, with one link (check_root_dir of `btrfs check`).
pub record KeepsInode (s : Super) (t : TreeOn) (a : ℕ) : Type 0 where
  pub root : a ≡ FIRST_FREE_OBJECTID → HasKind t a Directory × (ref_name_count t a ≡ 1)
  pub entries : EachAt dir_of a (IsDirEntry t) (index_entries t)
  pub fields : (inode : Inode) → HasInode t a inode → KeepsFields s inode × TellsCounts t a inode
  pub owned : EachAt object_of a (λ i. is_orphan i ≡ false → IsThere t a × IsInodeNumber a) t.items
  pub above : HasKind t a Directory → ComesToEnd t a

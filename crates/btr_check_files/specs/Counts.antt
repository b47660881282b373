-- What was met of one inode of a file tree: its names, the letters of its entries, and its extents.
use Rattle.std.specs.Prelude.{◌≡◌, ℕ, ◌-◌, ◌*◌, ◌^◌, List, length, min, Some}
use Rattle.std.specs.List.{flat_map, sum_by}
use Rattle.btr_check_rules.specs.btr_reader.btr_keys.DirEntry.{DirEntryValue}
use Rattle.btr_check_rules.specs.btr_reader.btr_keys.declared.inode.Inode.{Inode}
use Rattle.btr_check_rules.specs.btr_reader.btr_node.Leaf.{Item}
use Rattle.btr_check_rules.specs.btr_reader.btr_reader_names.Inodes.{kind_of_mode}
use Rattle.btr_check_rules.specs.btr_reader.btr_reader_walk.btr_keys.btrfs_format.declared.key.TheConstants.{EXTENT_DATA}
use Rattle.btr_check_rules.specs.btr_reader.btr_reader_walk.btr_keys.btrfs_format.declared.object.TheConstants.{FIRST_FREE_OBJECTID}
use Rattle.btr_check_rules.specs.btr_reader.btr_super.declared.superblock.Super.{Super}
use Rattle.btr_check_rules.specs.btr_reader.fs_rows.declared.row.Kind.TheVariants.{Directory}
use Rattle.btr_check_rules.specs.Names.{IndexEntry}
use Rattle.btr_check_rules.specs.Recount.{of_kind}
use Rattle.btr_check_items.specs.Runs.{AreCovering, AreKept, IsRunOf, TellsBytes}
use Rattle.btr_check_files.specs.Told.{index_by, told_by}
use Rattle.btr_check_files.specs.declared.tally.Tally.{Tally}

-- a count, or the largest number of 64 bits where that is less
abbrev pub capped : ℕ → ℕ
capped n = min n (2 ^ 64 - 1)

-- how many names some items of an inode tell, and how many letters the names of its entries have
abbrev pub names_in : List Item → ℕ
names_in own = length (flat_map told_by own)

abbrev pub entry_letters : List DirEntryValue → ℕ
entry_letters entries = sum_by (λ e. length e.name) entries

abbrev pub letters_in : List Item → ℕ
letters_in own = sum_by (λ (e : IndexEntry). length e.entry.name) (flat_map index_by own)

-- the extents among some items
abbrev pub extents_of : List Item → List Item
extents_of own = of_kind EXTENT_DATA own

-- A tally of some items of an inode, whose extents keep their rules.
pub record IsTallyOf (s : Super) (own : List Item) (t : Tally) : Type 0 where
  pub kind : kind_of_mode t.inode.mode ≡ Some t.kind
  pub names : t.names ≡ capped (names_in own)
  pub letters : t.letters ≡ capped (letters_in own)
  pub kept : AreKept s t.inode (extents_of own)
  pub run : IsRunOf (extents_of own) t.extents

-- An inode with this number tells what all of its items are, but for the orphan item of one without names.
pub record TellsOwn (s : Super) (ino : ℕ) (inode : Inode) (own : List Item) : Type 0 where
  pub links : inode.nlink ≡ names_in own
  pub size : kind_of_mode inode.mode ≡ Some Directory → inode.size ≡ 2 * letters_in own
  pub bytes : TellsBytes inode (extents_of own)
  pub covering : AreCovering s inode (extents_of own)
  pub root : ino ≡ FIRST_FREE_OBJECTID → (kind_of_mode inode.mode ≡ Some Directory) × (names_in own ≡ 1)

-- What the laws on part 2 are proved of: what it asks at each number, said of a whole file tree at once.
use Rattle.std.specs.Prelude.{◌≡◌, ◌≢◌, ◌≤◌, ◌<◌, ℕ, ◌+◌, ◌-◌, ◌^◌, true, false, bit_and, List, length, map, IsTrue, is_some, Some, All, AllPairs, Any, Contains}
use Rattle.std.specs.List.Sorted.{IsPermutation}
use Rattle.btr_reader.specs.btrfs_format.declared.feature.TheConstants.{NO_HOLES}
use Rattle.btr_reader.specs.btrfs_format.declared.flag.TheConstants.{FT_DIR, INODE_APPEND, INODE_IMMUTABLE}
use Rattle.btr_reader.specs.btrfs_format.declared.key.TheConstants.{EXTENT_DATA, INODE_ITEM, ROOT_BACKREF, ROOT_ITEM, ROOT_REF}
use Rattle.btr_reader.specs.btrfs_format.declared.object.TheConstants.{FIRST_FREE_OBJECTID}
use Rattle.btr_reader.specs.fs_rows.Kinds.{has_bytes}
use Rattle.btr_reader.specs.fs_rows.declared.row.Kind.{Kind}
use Rattle.btr_reader.specs.fs_rows.declared.row.Kind.TheVariants.{Directory, File, Symlink}
use Rattle.btr_reader.specs.btr_keys.Inode.{inode_of}
use Rattle.btr_reader.specs.btr_keys.declared.inode.Inode.{Inode}
use Rattle.btr_reader.specs.btr_node.Leaf.{Item}
use Rattle.btr_reader.specs.btr_reader_names.Inodes.{kind_of_mode}
use Rattle.btr_reader.specs.btr_reader_names.Links.{is_name}
use Rattle.btr_reader.specs.btr_space_items.RootRef.{RootRefValue, root_ref_of}
use Rattle.btr_reader.specs.btr_super.declared.superblock.Super.{Super}
use Rattle.btr_check_rules.specs.Files.{EndsBefore, EndsInFile, HoldsByte, KeepsExtent}
use Rattle.btr_check_rules.specs.Inodes.{ComesToEnd, HasInode, HasKind, HasOrphan, directory_size, entry_type, extents_in, has_no_sums, inode_nbytes, is_orphan, other_flags, ref_name_count}
use Rattle.btr_check_rules.specs.Names.{IndexEntry, IsOnForm, IsThere, given_names, hashed_entries, index_entries, names_inode_item, ref_names}
use Rattle.btr_check_rules.specs.Recount.{TreeOn, has_feature, of_kind}

-- the root tree refers from one tree to another by this entry, and back
pub record IsTreeEntry (roots : List Item) (tree : ℕ) (e : IndexEntry) : Type 0 where
  pub location : e.entry.location.kind ≡ ROOT_ITEM
  pub ref : RootRefValue
  pub ref_is : ref ≡ record { dirid = e.entry.dir; sequence = e.index; name = e.entry.name }
  pub forth : (body : List ℕ) × Contains roots (record { objectid = tree; kind = ROOT_REF; offset = e.entry.location.objectid }, body) × (root_ref_of body ≡ Some ref)
  pub back : (body : List ℕ) × Contains roots (record { objectid = e.entry.location.objectid; kind = ROOT_BACKREF; offset = tree }, body) × (root_ref_of body ≡ Some ref)

-- what an inode's item tells is so
pub record IsInode (t : TreeOn) (ino : ℕ) (inode : Inode) : Type 0 where
  pub directory : kind_of_mode inode.mode ≡ Some Directory → (inode.nlink ≡ 1) × (inode.size ≡ directory_size t ino)
  pub other : ¬ (kind_of_mode inode.mode ≡ Some Directory) → inode.nlink ≡ ref_name_count t ino
  pub bytes : inode.nbytes ≡ inode_nbytes t ino
  pub files : has_no_sums inode ≡ true → kind_of_mode inode.mode ≡ Some File

pub record AreTreeNames (roots : List Item) (t : TreeOn) : Type 0 where
  pub forms : All IsOnForm t.items
  pub entries : IsPermutation (map (λ e. e.entry) (index_entries t)) (hashed_entries t)
  pub names : IsPermutation (given_names t) (ref_names t)
  pub trees : All (λ e. names_inode_item e ≡ false → IsTreeEntry roots t.number e) (index_entries t)
  pub there : All (λ e. IsThere t e.entry.dir × (names_inode_item e ≡ true → IsThere t e.entry.location.objectid)) (index_entries t)
  pub inodes : (ino : ℕ) (body : List ℕ) (inode : Inode) → Contains t.items (record { objectid = ino; kind = INODE_ITEM; offset = 0 }, body) → inode_of body ≡ Some inode → IsInode t ino inode

-- an entry stands in a directory, and keeps the rules of names
pub record IsDirEntry (t : TreeOn) (e : IndexEntry) : Type 0 where
  pub directory : HasKind t e.entry.dir Directory
  pub inode : names_inode_item e ≡ true → (kind : Kind) × HasKind t e.entry.location.objectid kind × (e.entry.kind ≡ entry_type kind)
  pub tree : names_inode_item e ≡ false → e.entry.kind ≡ FT_DIR
  pub name : is_name e.entry.name ≡ true
  pub short : length e.entry.name ≤ 255
  pub index : 2 ≤ e.index

abbrev pub SameName : IndexEntry → IndexEntry → Type 0
SameName e f = (e.entry.dir ≡ f.entry.dir) × (e.entry.name ≡ f.entry.name)

-- an inode's own fields
pub record KeepsInode (s : Super) (t : TreeOn) (ino : ℕ) (inode : Inode) : Type 0 where
  pub kind : IsTrue (is_some (kind_of_mode inode.mode))
  pub bits : inode.mode < 2 ^ 16
  pub generation : (inode.generation ≤ s.generation + 1) × (inode.transid ≤ s.generation + 1)
  pub links : inode.nlink ≡ ref_name_count t ino
  pub orphan : ref_name_count t ino ≡ 0 → HasOrphan t ino
  pub flags : bit_and inode.flags other_flags ≡ 0
  pub symlink : kind_of_mode inode.mode ≡ Some Symlink → bit_and inode.flags (INODE_IMMUTABLE + INODE_APPEND) ≡ 0

-- an item has an inode item, with a number that inodes may have
pub record IsOwned (t : TreeOn) (i : Item) : Type 0 where
  pub there : IsThere t i.0.objectid
  pub low : FIRST_FREE_OBJECTID ≤ i.0.objectid
  pub high : i.0.objectid ≤ 2 ^ 64 - 256

pub record AreInodes (s : Super) (t : TreeOn) : Type 0 where
  pub root : HasKind t FIRST_FREE_OBJECTID Directory
  pub entries : All (IsDirEntry t) (index_entries t)
  pub once : AllPairs (λ e f. ¬ SameName e f) (index_entries t)
  pub inodes : (ino : ℕ) (inode : Inode) → HasInode t ino inode → KeepsInode s t ino inode
  pub owned : All (λ i. is_orphan i ≡ false → IsOwned t i) t.items
  pub above : (ino : ℕ) → HasKind t ino Directory → ComesToEnd t ino

pub record AreExtents (s : Super) (t : TreeOn) : Type 0 where
  pub each : All (KeepsExtent s t) (of_kind EXTENT_DATA t.items)
  pub apart : (ino : ℕ) → AllPairs EndsBefore (extents_in t ino)
  pub ends : All EndsInFile (of_kind EXTENT_DATA t.items)
  pub covering : has_feature s NO_HOLES ≡ false → (ino : ℕ) (inode : Inode) (kind : Kind) → HasInode t ino inode → kind_of_mode inode.mode ≡ Some kind → has_bytes kind ≡ true → inode.nlink ≢ 0
      → (k : ℕ) → k < inode.size → Any (HoldsByte k) (extents_in t ino)

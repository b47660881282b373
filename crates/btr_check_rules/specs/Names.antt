-- Part 2: in each file tree the directory indexes, the dir items and the references of inodes tell the same names. It fails at
-- the number of an inode.
use Rattle.std.specs.Prelude.{◌≡◌, ◌≤◌, ◌⊎◌, ℕ, ◌+◌, ◌^◌, ◌==◌, Bool, true, false, ◌&&◌, List, [], ◌∷◌, ◌++◌, length, map, drop, filter, codes, if◌then◌else◌, nat_lt, Option, Some, None, is_some, IsTrue, All, AllPairs, Contains}
use Rattle.std.specs.List.{flat_map, list_any}
use Rattle.std.specs.List.Sorted.{IsPermutation}
use Rattle.btr_reader_walk.specs.btrfs_format.declared.flag.TheConstants.{FT_DIR, FT_SYMLINK}
use Rattle.btr_reader_walk.specs.btrfs_format.declared.key.TheConstants.{DIR_INDEX, DIR_ITEM, EXTENT_DATA, INODE_EXTREF, INODE_ITEM, INODE_REF, ORPHAN_ITEM, ROOT_BACKREF, ROOT_ITEM, ROOT_REF, XATTR_ITEM}
use Rattle.btr_reader_walk.specs.btrfs_format.declared.object.TheConstants.{FIRST_FREE_OBJECTID}
use Rattle.btr_reader_walk.specs.btrfs_format.declared.size.TheConstants.{DIR_ITEM_SIZE, NAME_LEN}
use Rattle.btr_reader.specs.castagnoli.Castagnoli.{name_hash, extref_hash}
use Rattle.btr_reader.specs.btr_keys.DirEntry.{DirEntryValue, dir_entry_front, dir_items_of}
use Rattle.btr_reader.specs.btr_keys.Extref.{ExtrefValue, extrefs_of}
use Rattle.btr_reader.specs.btr_keys.FileExtent.{file_extent_of}
use Rattle.btr_reader.specs.btr_keys.Inode.{inode_of}
use Rattle.btr_reader.specs.btr_keys.InodeRef.{InodeRefValue, inode_refs_of}
use Rattle.btr_reader.specs.btr_keys.Repeated.{at_least_one, records}
use Rattle.btr_reader.specs.btr_keys.declared.key.Key.{Key}
use Rattle.btr_reader.specs.btr_node.Leaf.{Item}
use Rattle.btr_reader.specs.btr_space_items.RootRef.{RootRefValue, root_ref_of}
use Rattle.btr_reader.specs.btr_reader_names.Links.{is_name}
use Rattle.btr_reader.specs.btr_reader_walk.Nodes.{is_file_tree as is_subvolume}
use Rattle.btr_reader.specs.vol_block.Volume.{field}
use Rattle.btr_check_rules.specs.Recount.{Recount, TreeOn, EachAt, HasItem, PairsAt, object_of, of_kind}

-- ---- what items tell

-- A name in a directory, and what it names.
pub record NamedEntry : Type 0 where
  pub dir : ℕ
  pub name : List ℕ
  pub location : Key
  pub kind : ℕ

-- the same with its index
pub record IndexEntry : Type 0 where
  pub entry : NamedEntry
  pub index : ℕ

-- a name as the inode that it names tells it
pub record BackName : Type 0 where
  pub inode : ℕ
  pub dir : ℕ
  pub index : ℕ
  pub name : List ℕ

abbrev pub or_none : {A : Type 0} → Option (List A) → List A
or_none None = []
or_none (Some xs) = xs

abbrev pub entry_of : Item → DirEntryValue → NamedEntry
entry_of i e = record { dir = i.0.objectid; name = e.name; location = e.location; kind = e.kind }

-- the entries of the dir items, and those of the directory indexes
abbrev pub hashed_entries : TreeOn → List NamedEntry
hashed_entries t = flat_map (λ i. map (entry_of i) (or_none (dir_items_of i.1))) (of_kind DIR_ITEM t.items)

abbrev pub index_entries : TreeOn → List IndexEntry
index_entries t = flat_map (λ i. map (λ e. record { entry = entry_of i e; index = i.0.offset }) (or_none (dir_items_of i.1))) (of_kind DIR_INDEX t.items)

-- the names of inode refs and extrefs
abbrev pub ref_names : TreeOn → List BackName
ref_names t =
    flat_map (λ i. map (λ (e : InodeRefValue). record { inode = i.0.objectid; dir = i.0.offset; index = e.index; name = e.name }) (or_none (inode_refs_of i.1))) (of_kind INODE_REF t.items)
    ++ flat_map (λ i. map (λ (e : ExtrefValue). record { inode = i.0.objectid; dir = e.parent; index = e.index; name = e.name }) (or_none (extrefs_of i.1))) (of_kind INODE_EXTREF t.items)

-- the root directory is named by itself, under `..` and the index 0
abbrev pub own_name : BackName
own_name = record { inode = FIRST_FREE_OBJECTID; dir = FIRST_FREE_OBJECTID; index = 0; name = codes ".." }

abbrev pub back_name : IndexEntry → BackName
back_name e = record { inode = e.entry.location.objectid; dir = e.entry.dir; index = e.index; name = e.entry.name }

abbrev pub names_inode_item : IndexEntry → Bool
names_inode_item e = (e.entry.location.kind == INODE_ITEM) && (e.entry.location.offset == 0)

-- the names of inodes by the entries of directories
abbrev pub given_names : TreeOn → List BackName
given_names t = own_name ∷ map back_name (filter names_inode_item (index_entries t))

-- the entries of one directory, and the names of one inode
abbrev pub entries_in : ℕ → List NamedEntry → List NamedEntry
entries_in dir entries = filter (λ e. e.dir == dir) entries

abbrev pub names_of : ℕ → List BackName → List BackName
names_of ino names = filter (λ n. n.inode == ino) names

-- the number of the directory of an entry
abbrev pub dir_of : IndexEntry → ℕ
dir_of e = e.entry.dir

-- an inode has an item
abbrev pub IsThere : TreeOn → ℕ → Type 0
IsThere t ino = HasItem t.items ino INODE_ITEM 0

-- ---- forms

-- An extended attribute is an entry with data: head, name, and data behind it.
abbrev pub behind_attribute : List ℕ → Option (List ℕ)
behind_attribute bytes =
    if nat_lt (length bytes) DIR_ITEM_SIZE then None
    else (if nat_lt (length bytes) (DIR_ITEM_SIZE + field 2 bytes 27 + field 2 bytes 25) then None else Some (drop (DIR_ITEM_SIZE + field 2 bytes 27 + field 2 bytes 25) bytes))

abbrev pub attributes_of : List ℕ → Option (List DirEntryValue)
attributes_of body = at_least_one (records behind_attribute dir_entry_front body)

-- the type of an entry that is an attribute (BTRFS_FT_XATTR)
abbrev pub FT_XATTR : ℕ
FT_XATTR = FT_SYMLINK + 1

-- It names nothing, and stands under the hash of its name (check_dir_item).
pub record IsAttribute (hash : ℕ) (e : DirEntryValue) : Type 0 where
  pub kind : e.kind ≡ FT_XATTR
  pub location : e.location ≡ record { objectid = 0; kind = 0; offset = 0 }
  pub name : (1 ≤ length e.name) × (length e.name ≤ NAME_LEN)
  pub hashed : name_hash e.name ≡ hash

-- the lowest and the highest number of an inode (check_inode_key)
abbrev pub IsInodeNumber : ℕ → Type 0
IsInodeNumber ino = (FIRST_FREE_OBJECTID ≤ ino) × (ino + FIRST_FREE_OBJECTID ≤ 2 ^ 64)

-- An entry has no data, and names an inode or a subvolume with a type of these (check_dir_item, check_inode_key,
-- check_root_key).
pub record IsEntry (e : DirEntryValue) : Type 0 where
  pub data_ : e.data_length ≡ 0
  pub kind : (1 ≤ e.kind) × (e.kind ≤ FT_SYMLINK)
  pub target : ((e.location.kind ≡ INODE_ITEM) × (e.location.offset ≡ 0) × IsInodeNumber e.location.objectid)
      ⊎ ((e.location.kind ≡ ROOT_ITEM) × (is_subvolume e.location.objectid ≡ true))

-- The item is of one of the kinds that inodes have, and on the grammar of its kind; hashes are those of the names (check_dir_item,
-- check_inode_ref, check_inode_item, check_extent_data_item). A directory index has one entry (I_ERR_DUP_DIR_INDEX of
-- `btrfs check`).
abbrev pub file_kinds : List ℕ
file_kinds = INODE_ITEM ∷ (INODE_REF ∷ (INODE_EXTREF ∷ (XATTR_ITEM ∷ (ORPHAN_ITEM ∷ (DIR_ITEM ∷ (DIR_INDEX ∷ (EXTENT_DATA ∷ [])))))))

pub record IsOnForm (i : Item) : Type 0 where
  pub kind : list_any (λ k. k == i.0.kind) file_kinds ≡ true
  pub inode : i.0.kind ≡ INODE_ITEM → (i.0.offset ≡ 0) × IsTrue (is_some (inode_of i.1))
  pub refs : i.0.kind ≡ INODE_REF → IsTrue (is_some (inode_refs_of i.1))
  pub extrefs : i.0.kind ≡ INODE_EXTREF → (es : List ExtrefValue) × (extrefs_of i.1 ≡ Some es) × All (λ e. extref_hash e.parent e.name ≡ i.0.offset) es
  pub attributes : i.0.kind ≡ XATTR_ITEM → (es : List DirEntryValue) × (attributes_of i.1 ≡ Some es) × All (IsAttribute i.0.offset) es × AllPairs (λ e f. ¬ (e.name ≡ f.name)) es
  pub hashed : i.0.kind ≡ DIR_ITEM → (es : List DirEntryValue) × (dir_items_of i.1 ≡ Some es) × All (λ e. (name_hash e.name ≡ i.0.offset) × IsEntry e) es
  pub indexed : i.0.kind ≡ DIR_INDEX → (e : DirEntryValue) × (dir_items_of i.1 ≡ Some (e ∷ [])) × IsEntry e
  pub extent : i.0.kind ≡ EXTENT_DATA → IsTrue (is_some (file_extent_of i.1))

-- ---- names

-- the rules of names of the VFS of Linux, and no index below 2 (BTRFS_DIR_START_INDEX), since none is listed
pub record IsNamed (e : IndexEntry) : Type 0 where
  pub name : is_name e.entry.name ≡ true
  pub short : length e.entry.name ≤ NAME_LEN
  pub index : 2 ≤ e.index

-- no name stands twice in a directory (btrfs_insert_dir_item)
abbrev pub DifferInName : IndexEntry → IndexEntry → Type 0
DifferInName e f = ¬ ((e.entry.dir ≡ f.entry.dir) × (e.entry.name ≡ f.entry.name))

-- ---- names of trees

-- the root tree refers from one tree to another by this entry, and back
abbrev pub ref_by : IndexEntry → RootRefValue
ref_by e = record { dirid = e.entry.dir; sequence = e.index; name = e.entry.name }

pub record HasRootRefs (roots : List Item) (tree : ℕ) (e : IndexEntry) : Type 0 where
  pub forth : (body : List ℕ) × Contains roots (record { objectid = tree; kind = ROOT_REF; offset = e.entry.location.objectid }, body) × (root_ref_of body ≡ Some (ref_by e))
  pub back : (body : List ℕ) × Contains roots (record { objectid = e.entry.location.objectid; kind = ROOT_BACKREF; offset = tree }, body) × (root_ref_of body ≡ Some (ref_by e))

-- the root tree has no reference from one tree to another
abbrev pub HasNoRootRef : List Item → ℕ → ℕ → Type 0
HasNoRootRef roots tree other = ¬ HasItem roots tree ROOT_REF other × ¬ HasItem roots other ROOT_BACKREF tree

-- An entry that names a tree has both references (check_root_refs of `btrfs check`). In a snapshot, which was made with
-- the entry, it may have none (create_pending_snapshot); Linux shows an empty directory there.
abbrev pub IsTreeEntry : Recount → TreeOn → IndexEntry → Type 0
IsTreeEntry r t e =
    (e.entry.kind ≡ FT_DIR)
    × (HasRootRefs r.root_tree.items t.number e ⊎ ((1 ≤ t.made) × HasNoRootRef r.root_tree.items t.number e.entry.location.objectid))

-- A reference from this tree is told by an entry (check_root_refs of `btrfs check`). It fails at the root directory of
-- the tree that the reference stands in, where it is off its grammar, and else at the directory that it tells.
abbrev pub dir_of_ref : Option RootRefValue → ℕ
dir_of_ref None = FIRST_FREE_OBJECTID
dir_of_ref (Some ref) = ref.dirid

abbrev pub dir_told : Item → ℕ
dir_told i = dir_of_ref (root_ref_of i.1)

abbrev pub tells_tree : ℕ → Item → Bool
tells_tree number i = (i.0.kind == ROOT_REF) && (i.0.objectid == number)

abbrev pub told_by_tree : ℕ → Item → Bool
told_by_tree number i = (i.0.kind == ROOT_BACKREF) && (i.0.offset == number)

abbrev pub IsToldBy : TreeOn → ℕ → Option RootRefValue → Type 0
IsToldBy t other ref = (e : IndexEntry) × Contains (index_entries t) e × (names_inode_item e ≡ false) × (e.entry.location.objectid ≡ other) × (ref ≡ Some (ref_by e))

pub record KeepsRootRefs (r : Recount) (t : TreeOn) (a : ℕ) : Type 0 where
  pub forth : EachAt dir_told a (λ i. IsToldBy t i.0.offset (root_ref_of i.1)) (filter (tells_tree t.number) r.root_tree.items)
  pub back : EachAt dir_told a (λ i. IsToldBy t i.0.objectid (root_ref_of i.1)) (filter (told_by_tree t.number) r.root_tree.items)
  -- each subvolume but the first is named by a tree ("fs tree not referenced" of `btrfs check`)
  pub named : a ≡ FIRST_FREE_OBJECTID → is_subvolume t.number ≡ true → FIRST_FREE_OBJECTID ≤ t.number
      → (parent : ℕ) × HasItem r.root_tree.items t.number ROOT_BACKREF parent

-- ---- the part

-- What is asked of the items and names of an inode.
pub record KeepsNames (r : Recount) (t : TreeOn) (a : ℕ) : Type 0 where
  pub forms : EachAt object_of a IsOnForm t.items
  -- a directory's dir items and dir indexes tell the same entries (REF_ERR_NO_DIR_ITEM, REF_ERR_NO_DIR_INDEX)
  pub entries : IsPermutation (entries_in a (map (λ e. e.entry) (index_entries t))) (entries_in a (hashed_entries t))
  -- an inode's references and the entries that name it tell the same names (REF_ERR_NO_INODE_REF)
  pub names : IsPermutation (names_of a (given_names t)) (names_of a (ref_names t))
  pub named : EachAt dir_of a IsNamed (index_entries t)
  pub once : PairsAt dir_of a DifferInName (index_entries t)
  pub trees : EachAt dir_of a (λ e. names_inode_item e ≡ false → IsTreeEntry r t e) (index_entries t)
  pub root_refs : KeepsRootRefs r t a

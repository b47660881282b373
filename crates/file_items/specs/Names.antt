-- The items of a file tree that tell names, for the links of a ReiserFS volume.
use Rattle.std.specs.Prelude.{ℕ, ◌+◌, ◌-◌, ◌^◌, nat_lt, Bool, not, List, [], ◌∷◌, ◌++◌, map, filter, count_by, sum_by, length, if◌then◌else◌}
use Rattle.std.specs.List.{flat_map}
use Rattle.btr_item_list.specs.btrfs_format.declared.flag.TheConstants.{FT_BLKDEV, FT_CHRDEV, FT_DIR, FT_FIFO, FT_REG_FILE, FT_SOCK, FT_SYMLINK}
use Rattle.btr_item_list.specs.btrfs_format.declared.key.TheConstants.{DIR_INDEX, DIR_ITEM, INODE_EXTREF, INODE_ITEM, INODE_REF, ROOT_ITEM}
use Rattle.btr_item_list.specs.btrfs_format.declared.object.TheConstants.{CONV_IMAGE_SUBVOL, FIRST_FREE_OBJECTID}
use Rattle.reiser_volume.specs.castagnoli.Castagnoli.{name_hash, extref_hash}
use Rattle.unit_plan.specs.btr_keys.DirEntry.{DirEntryValue, dir_entry_bytes}
use Rattle.unit_plan.specs.btr_keys.Extref.{ExtrefValue, extref_bytes}
use Rattle.unit_plan.specs.btr_keys.InodeRef.{InodeRefValue, inode_ref_bytes}
use Rattle.unit_plan.specs.btr_keys.Key.{make_key}
use Rattle.unit_plan.specs.btr_node.Leaf.{Item}
use Rattle.reiser_volume_objects.specs.fs_rows.declared.row.Kind.{Kind}
use Rattle.reiser_volume_objects.specs.fs_rows.declared.row.Kind.TheVariants.{Directory, File, Symlink, Character, Block, Fifo, Socket, Subvolume}
use Rattle.reiser_volume.specs.reiser_volume_names.Names.{ino_of_key, reference_size, saved_name}
use Rattle.reiser_volume_objects.specs.declared.key.ObjectKey.{ObjectKey}
use Rattle.reiser_volume_objects.specs.declared.naming.Naming.{Naming}
use Rattle.reiser_volume_objects.specs.Keys.{root, same_key}
use Rattle.btr_item_list.specs.Groups.{grouped, ascending}
use Rattle.btr_item_list.specs.Inodes.{ref_item}

-- A link with the index that it gets in its directory. It is extended where the names of its object in its directory, up
-- to it, take more than an inode ref holds.
pub record IndexedLink : Type 0 where
  pub link : Naming
  pub index : ℕ
  pub extended : Bool

-- the index of the next link of a directory behind these
abbrev pub next_index : List Naming → ObjectKey → ℕ
next_index before dir = 2 + count_by (λ n. same_key n.dir dir) before

abbrev pub entry_behind : List Naming → Naming → IndexedLink
entry_behind before n = record {
  link = n;
  index = next_index before n.dir;
  extended = nat_lt 3900 (reference_size (before ++ n ∷ []) n.dir n.target);
}

-- links behind others as entries
abbrev pub entries_behind : List Naming → List Naming → List IndexedLink
entries_behind before [] = []
entries_behind before (n ∷ links) = entry_behind before n ∷ entries_behind (before ++ n ∷ []) links

abbrev pub indexed_links : List Naming → List IndexedLink
indexed_links links = entries_behind [] links

-- the names of an object, and those in a directory
abbrev pub names_of : List Naming → ObjectKey → List IndexedLink
names_of links key = filter (λ e. same_key e.link.target key) (indexed_links links)

abbrev pub names_in : List Naming → ObjectKey → List IndexedLink
names_in links dir = filter (λ e. same_key e.link.dir dir) (indexed_links links)

-- the inode of the directory that a name stands in
abbrev pub parent_of : List ObjectKey → IndexedLink → ℕ
parent_of keys e = ino_of_key keys e.link.dir

abbrev pub inode_ref : IndexedLink → InodeRefValue
inode_ref e = record { index = e.index; name = e.link.name }

abbrev pub extref : List ObjectKey → IndexedLink → ExtrefValue
extref keys e = record { parent = parent_of keys e; index = e.index; name = e.link.name }

-- an inode ref for each directory that names the object, with the names that are not extended
abbrev pub inode_refs : List ObjectKey → List Naming → ObjectKey → List Item
inode_refs keys links key =
    map
    (λ g. (make_key (ino_of_key keys key) INODE_REF g.0, flat_map (λ e. inode_ref_bytes (inode_ref e)) g.1))
    (grouped (parent_of keys) (filter (λ e. not e.extended) (names_of links key)))

-- an extref for each hash of the others, in it the names by directory and index
abbrev pub extrefs : List ObjectKey → List Naming → ObjectKey → List Item
extrefs keys links key =
    map
    (λ g. (make_key (ino_of_key keys key) INODE_EXTREF g.0, flat_map (λ e. extref_bytes (extref keys e)) g.1))
    (grouped (λ e. extref_hash (parent_of keys e) e.link.name) (ascending (parent_of keys) (filter (λ e. e.extended) (names_of links key))))

-- the root directory of a tree names itself
abbrev pub root_ref : Item
root_ref = ref_item FIRST_FREE_OBJECTID FIRST_FREE_OBJECTID 0 (46 ∷ 46 ∷ [])

-- the kind in a directory's entry; Linux has a subvolume as a directory
abbrev pub entry_kind : Kind → ℕ
entry_kind File = FT_REG_FILE
entry_kind Directory = FT_DIR
entry_kind Character = FT_CHRDEV
entry_kind Block = FT_BLKDEV
entry_kind Fifo = FT_FIFO
entry_kind Socket = FT_SOCK
entry_kind Symlink = FT_SYMLINK
entry_kind Subvolume = FT_DIR

-- an entry of a directory, under its index
abbrev pub Indexed : Type 0
Indexed = ℕ × DirEntryValue

abbrev pub entry_to : ℕ → Kind → List ℕ → DirEntryValue
entry_to ino kind name = record { location = make_key ino INODE_ITEM 0; transid = 1; data_length = 0; kind = entry_kind kind; name = name }

-- the root's entry for the tree of the saved image
abbrev pub saved_entry : DirEntryValue
saved_entry = record { location = make_key CONV_IMAGE_SUBVOL ROOT_ITEM (2 ^ 64 - 1); transid = 1; data_length = 0; kind = FT_DIR; name = saved_name }

-- what the entries of a directory are; the root's last one is that of the saved image
abbrev pub indexed_in : (ObjectKey → Kind) → List ObjectKey → List Naming → ObjectKey → List Indexed
indexed_in kind keys links dir =
    map (λ e. (e.index, entry_to (ino_of_key keys e.link.target) (kind e.link.target) e.link.name)) (names_in links dir)
    ++ (if same_key dir root then (next_index links dir, saved_entry) ∷ [] else [])

-- the bytes of all names
abbrev pub letters : List Indexed → ℕ
letters list = sum_by (λ e. length e.1.name) list

-- a dir item for each hash, in it the entries by index, and a dir index for each entry
abbrev pub entry_items : ℕ → List Indexed → List Item
entry_items ino list =
    map (λ g. (make_key ino DIR_ITEM g.0, flat_map (λ e. dir_entry_bytes e.1) g.1)) (grouped (λ e. name_hash e.1.name) list)
    ++ map (λ e. (make_key ino DIR_INDEX e.0, dir_entry_bytes e.1)) list

-- the records of names that the items of an object are made of: under the directories' inodes those of its inode refs, and
-- those of its extrefs with their hashes
abbrev pub ref_record : List ObjectKey → ℕ → IndexedLink → Item
ref_record keys ino e = (make_key ino INODE_REF (parent_of keys e), inode_ref_bytes (inode_ref e))

abbrev pub far_record : List ObjectKey → IndexedLink → Item
far_record keys e = (make_key (extref_hash (parent_of keys e) e.link.name) INODE_EXTREF (parent_of keys e), extref_bytes (extref keys e))

-- the records of a directory's entries, under their hashes and under their indexes
abbrev pub hash_record : ℕ → Indexed → Item
hash_record ino e = (make_key ino DIR_ITEM (name_hash e.1.name), dir_entry_bytes e.1)

abbrev pub index_record : ℕ → Indexed → Item
index_record ino e = (make_key ino DIR_INDEX e.0, dir_entry_bytes e.1)

-- an entry of a directory that a link is
abbrev pub indexed : (ObjectKey → Kind) → List ObjectKey → IndexedLink → Indexed
indexed kind keys e = (e.index, entry_to (ino_of_key keys e.link.target) (kind e.link.target) e.link.name)

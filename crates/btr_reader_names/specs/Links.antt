-- The names of a file tree: the directory indexes, from the root directory on.
use Rattle.std.specs.Prelude.{◌≡◌, ℕ, ◌==◌, nat_lt, nat_eq, Bool, true, not, ◌&&◌, ◌||◌, if◌then◌else◌, List, [], ◌∷◌, ◌++◌, length, codes, filter, Contains, Option, Some, None}
use Rattle.std.specs.List.{list_any}
use Rattle.std.specs.Cmp.Lexicographic.{pointwise}
use Rattle.btr_reader_walk.specs.btrfs_format.declared.key.TheConstants.{DIR_INDEX, INODE_ITEM, ROOT_ITEM}
use Rattle.btr_reader_walk.specs.btrfs_format.declared.object.TheConstants.{FIRST_FREE_OBJECTID}
use Rattle.btr_reader_walk.specs.btr_keys.DirEntry.{DirEntryValue, dir_items_of}
use Rattle.btr_reader_walk.specs.Events.{TreeItem}
use Rattle.fs_paths.specs.fs_rows.Rows.{NameList}
use Rattle.btr_reader_names.specs.declared.dir_index.DirIndex.{DirIndex}
use Rattle.btr_reader_names.specs.Inodes.{IsDirectoryInode}

abbrev pub is_index : TreeItem → Bool
is_index i = i.key.kind == DIR_INDEX

-- a directory index has exactly one record
abbrev pub only_one : Option (List DirEntryValue) → Option DirEntryValue
only_one None = None
only_one (Some []) = None
only_one (Some (e ∷ [])) = Some e
only_one (Some (e ∷ f ∷ es)) = None

abbrev pub index_entry : List ℕ → Option DirEntryValue
index_entry body = only_one (dir_items_of body)

abbrev pub naming_of : TreeItem → DirEntryValue → DirIndex
naming_of i e = record { leaf = i.leaf; dir = i.key.objectid; index = i.key.offset; location = e.location; name = e.name }

abbrev pub naming_at : TreeItem → Option DirEntryValue → List DirIndex
naming_at i None = []
naming_at i (Some e) = naming_of i e ∷ []

-- the entry that an item is
abbrev pub own_naming : TreeItem → List DirIndex
own_naming i = if is_index i then naming_at i (index_entry i.body) else []

-- all entries of a tree whose bodies are on their grammar
abbrev pub dir_indexes : List TreeItem → List DirIndex
dir_indexes [] = []
dir_indexes (i ∷ items) = own_naming i ++ dir_indexes items

-- not empty, without a slash or a zero byte, and neither `.` nor `..`
abbrev pub is_name : List ℕ → Bool
is_name name =
    nat_lt 0 (length name)
    && (not (list_any (λ b. (b == 47) || (b == 0)) name) && not (pointwise nat_eq name (codes ".") || pointwise nat_eq name (codes "..")))

-- the name under which the root directory has the saved image's tree
abbrev pub is_saved_name : List ℕ → Bool
is_saved_name name = pointwise nat_eq name (codes "reiserfs_saved")

-- the entry of the saved image's tree is no part of the tree
abbrev pub is_followed : DirIndex → Bool
is_followed n = not ((n.dir == FIRST_FREE_OBJECTID) && is_saved_name n.name)

abbrev pub names_inode : DirIndex → Bool
names_inode n = n.location.kind == INODE_ITEM

abbrev pub names_tree : DirIndex → Bool
names_tree n = n.location.kind == ROOT_ITEM

-- the entries of named directories that are followed
abbrev pub followed : List TreeItem → List DirIndex
followed items = filter is_followed (dir_indexes items)

-- The inode is named: it is the root directory, or an entry of a named directory names it.
pub data IsNamedInode (items : List TreeItem) : ℕ → Type 0 where
  root : IsNamedInode items FIRST_FREE_OBJECTID
  entry : (n : DirIndex) → Contains (followed items) n → IsNamedInode items n.dir → IsDirectoryInode items n.dir → names_inode n ≡ true → IsNamedInode items n.location.objectid

-- what stands at the end of a path
pub data Target : Type 0 where
  inode : ℕ → Target
  tree : ℕ → Target

-- the entry names it
abbrev pub NamesTarget : DirIndex → Target → Type 0
NamesTarget n (inode ino) = (names_inode n ≡ true) × (n.location.objectid ≡ ino)
NamesTarget n (tree number) = (names_tree n ≡ true) × (n.location.objectid ≡ number)

-- from one to another by the names of a path
abbrev pub LeadsToTarget : List TreeItem → Target → NameList → Target → Type 0
LeadsToTarget items from [] to = from ≡ to
LeadsToTarget items (tree number) (name ∷ names) to = ⊥
LeadsToTarget items (inode ino) (name ∷ names) to =
    (n : DirIndex) × (next : Target) × Contains (followed items) n × (n.dir ≡ ino) × IsDirectoryInode items ino × (n.name ≡ name) × NamesTarget n next × LeadsToTarget items next names to

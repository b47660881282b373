-- The rules that the names of a file tree keep, and how each is refused where it fails.
use Rattle.std.specs.Prelude.{◌≡◌, ◌≢◌, ◌<◌, ℕ, Bool, true, false, List, ◌∷◌, ◌++◌, Contains, Some, None}
use Rattle.btr_reader_walk.specs.btrfs_format.declared.object.TheConstants.{FIRST_FREE_OBJECTID}
use Rattle.btr_reader_walk.specs.refusals.declared.refusal.BtrRefusal.{BtrRefusal}
use Rattle.btr_reader_walk.specs.refusals.declared.refusal.BtrRefusal.TheVariants.{BadBtrfs}
use Rattle.btr_reader_walk.specs.refusals.declared.rule.BtrRule.TheVariants.{Body, NoInode, NameForm, DirTwice}
use Rattle.btr_reader_walk.specs.btr_keys.Inode.{inode_of}
use Rattle.btr_reader_walk.specs.btr_keys.declared.inode.Inode.{Inode}
use Rattle.btr_reader_walk.specs.Events.{TreeItem}
use Rattle.fs_paths.specs.fs_rows.declared.row.Kind.{Kind}
use Rattle.fs_paths.specs.fs_rows.declared.row.Kind.TheVariants.{Directory, Symlink}
use Rattle.btr_reader_names.specs.declared.dir_index.DirIndex.{DirIndex}
use Rattle.btr_reader_names.specs.Inodes.{find_inode_item, inode_on, kind_of_mode, IsDirectoryInode}
use Rattle.btr_reader_names.specs.Links.{dir_indexes, followed, is_index, index_entry, is_name, names_inode, names_tree, IsNamedInode}

-- two elements of a list, the earlier one first
pub record AreIn {X : Type 0} (xs : List X) (x y : X) : Type 0 where
  pub before : List X
  pub after : List X
  pub split : xs ≡ before ++ (y ∷ after)
  pub earlier : Contains before x

-- the inode is a named directory
pub record IsOpen (items : List TreeItem) (ino : ℕ) : Type 0 where
  pub named : IsNamedInode items ino
  pub directory : IsDirectoryInode items ino

-- Which inodes and names break which rule, in a file tree with these items, whose root node has this address. The test says
-- which numbers of trees have a root item. Linux allows no target of a symlink above 4095 bytes (PATH_MAX with its zero).
pub data BreaksNames (has_root : ℕ → Bool) (items : List TreeItem) (root : ℕ) (r : BtrRefusal) : Type 0 where
  no_root_directory : find_inode_item items FIRST_FREE_OBJECTID ≡ None → r ≡ BadBtrfs root NoInode → BreaksNames has_root items root r
  root_is_none : (own : Inode) (kind : Kind) → inode_on items FIRST_FREE_OBJECTID ≡ Some own → kind_of_mode own.mode ≡ Some kind → kind ≢ Directory → r ≡ BadBtrfs root NoInode → BreaksNames has_root items root r
  bad_inode : (ino : ℕ) (i : TreeItem) → IsNamedInode items ino → find_inode_item items ino ≡ Some i → inode_of i.body ≡ None → r ≡ BadBtrfs i.leaf Body → BreaksNames has_root items root r
  bad_mode : (ino : ℕ) (i : TreeItem) (own : Inode) → IsNamedInode items ino → find_inode_item items ino ≡ Some i → inode_of i.body ≡ Some own → kind_of_mode own.mode ≡ None → r ≡ BadBtrfs i.leaf Body → BreaksNames has_root items root r
  long_target : (ino : ℕ) (i : TreeItem) (own : Inode) → IsNamedInode items ino → find_inode_item items ino ≡ Some i → inode_of i.body ≡ Some own → kind_of_mode own.mode ≡ Some Symlink → 4095 < own.size → r ≡ BadBtrfs i.leaf Body → BreaksNames has_root items root r
  bad_index : (i : TreeItem) → Contains items i → is_index i ≡ true → IsOpen items i.key.objectid → index_entry i.body ≡ None → r ≡ BadBtrfs i.leaf Body → BreaksNames has_root items root r
  bad_name : (n : DirIndex) → Contains (dir_indexes items) n → IsOpen items n.dir → is_name n.name ≡ false → r ≡ BadBtrfs n.leaf NameForm → BreaksNames has_root items root r
  twice : (m n : DirIndex) → AreIn (dir_indexes items) m n → IsOpen items n.dir → m.dir ≡ n.dir → m.name ≡ n.name → r ≡ BadBtrfs n.leaf NameForm → BreaksNames has_root items root r
  bad_location : (n : DirIndex) → Contains (followed items) n → IsOpen items n.dir → names_inode n ≡ false → names_tree n ≡ false → r ≡ BadBtrfs n.leaf Body → BreaksNames has_root items root r
  no_inode : (n : DirIndex) → Contains (followed items) n → IsOpen items n.dir → names_inode n ≡ true → find_inode_item items n.location.objectid ≡ None → r ≡ BadBtrfs n.leaf NoInode → BreaksNames has_root items root r
  no_tree : (n : DirIndex) → Contains (followed items) n → IsOpen items n.dir → names_tree n ≡ true → has_root n.location.objectid ≡ false → r ≡ BadBtrfs n.leaf NoInode → BreaksNames has_root items root r
  directory_twice : (m n : DirIndex) → AreIn (followed items) m n → IsOpen items m.dir → IsOpen items n.dir → names_inode m ≡ true → names_inode n ≡ true → m.location.objectid ≡ n.location.objectid → IsDirectoryInode items n.location.objectid → r ≡ BadBtrfs n.leaf DirTwice → BreaksNames has_root items root r
  root_named : (n : DirIndex) → Contains (followed items) n → IsOpen items n.dir → names_inode n ≡ true → n.location.objectid ≡ FIRST_FREE_OBJECTID → r ≡ BadBtrfs n.leaf DirTwice → BreaksNames has_root items root r

-- no rule is broken
abbrev pub KeepsNames : (ℕ → Bool) → List TreeItem → ℕ → Type 0
KeepsNames has_root items root = (r : BtrRefusal) → ¬ BreaksNames has_root items root r

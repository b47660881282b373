-- The rows of a Btrfs volume, and what is wrong with what they are made from.
use Rattle.std.specs.Prelude.{◌≡◌, ◌⊎◌, ℕ, ◌/◌, ◌%◌, ◌^◌, ◌==◌, pos, Bool, true, false, not, ◌&&◌, if◌then◌else◌, List, [], Contains, Some, None}
use Rattle.std.specs.Int.{bit_at}
use Rattle.std.specs.Ordering.{is_le}
use Rattle.btr_space_items.specs.btrfs_format.declared.object.TheConstants.{FIRST_FREE_OBJECTID, FS_TREE}
use Rattle.btr_reader_walk.specs.outside.History.{Image}
use Rattle.btr_reader_walk.specs.refusals.declared.refusal.BtrRefusal.{BtrRefusal}
use Rattle.btr_reader_walk.specs.refusals.declared.refusal.BtrRefusal.TheVariants.{BadBtrfs}
use Rattle.btr_reader_walk.specs.refusals.declared.rule.BtrRule.TheVariants.{Body, NoInode}
use Rattle.btr_reader_walk.specs.btr_keys.declared.inode.Inode.{Inode}
use Rattle.btr_reader_walk.specs.btr_keys.declared.stamp.Stamp.{Stamp}
use Rattle.btr_super.specs.declared.superblock.Super.{Super}
use Rattle.btr_reader_walk.specs.declared.map.MapRange.{MapRange}
use Rattle.btr_reader_walk.specs.declared.tree.NodePointer.{NodePointer}
use Rattle.btr_reader_walk.specs.Events.{TreeItem}
use Rattle.btr_reader_walk.specs.Walks.{found, wrong}
use Rattle.fs_paths.specs.fs_rows.Rows.{NameList, WholeRow, AscendsByPath, path_cmp, name_count}
use Rattle.fs_paths.specs.fs_rows.declared.row.Kind.TheVariants.{File, Symlink, Subvolume}
use Rattle.fs_paths.specs.fs_rows.declared.row.Time.{Time}
use Rattle.btr_reader.specs.Opening.{tree_of, root_tree}
use Rattle.btr_reader.specs.Roots.{root_item, pointer_of}
use Rattle.btr_reader_names.specs.Inodes.{inode_on, kind_of_mode, HasKind}
use Rattle.fs_paths.specs.fs_rows.Kinds.{is_device, has_bytes, is_symlink, is_directory}
use Rattle.btr_reader_names.specs.Links.{IsNamedInode, Target, inode, tree, LeadsToTarget}
use Rattle.btr_reader_names.specs.Roots.{has_root}
use Rattle.btr_reader_names.specs.Rules.{BreaksNames}
use Rattle.btr_reader_contents.specs.Extents.{extents_of, bytes_of_inode, extents_refusals}

abbrev pub time_of : Stamp → Time
time_of s = record { sec = s.sec; nsec = s.nsec }

abbrev pub has_flag : Inode → ℕ → Bool
has_flag i b = bit_at i.flags b == 1

-- What a path's row has from its inode: all but path, least, names and bytes. The flags are bits 5 to 9; of a symlink
-- immutable and append mean nothing. A device's number is 2^20·major + minor.
pub record HasInode (i : Inode) (row : WholeRow) : Type 0 where
  pub kind : kind_of_mode i.mode ≡ Some row.kind
  pub mode : row.mode ≡ i.mode % 4096
  pub uid : row.uid ≡ i.uid
  pub gid : row.gid ≡ i.gid
  pub atime : row.atime ≡ time_of i.atime
  pub mtime : row.mtime ≡ time_of i.mtime
  pub ctime : row.ctime ≡ time_of i.ctime
  pub sync : row.sync ≡ has_flag i 5
  pub immutable : row.immutable ≡ (not (is_symlink row.kind) && has_flag i 6)
  pub append : row.append ≡ (not (is_symlink row.kind) && has_flag i 7)
  pub nodump : row.nodump ≡ has_flag i 8
  pub noatime : row.noatime ≡ has_flag i 9
  pub major : row.major ≡ (if is_device row.kind then i.rdev / 2 ^ 20 else 0)
  pub minor : row.minor ≡ (if is_device row.kind then i.rdev % 2 ^ 20 else 0)

-- the number of the root directory's inode
abbrev pub top : Target
top = inode FIRST_FREE_OBJECTID

-- a path of the inode, and no path of it is below
pub record IsLeastPath (items : List TreeItem) (ino : ℕ) (path : NameList) : Type 0 where
  pub leads : LeadsToTarget items top path (inode ino)
  pub least : (other : NameList) → LeadsToTarget items top other (inode ino) → is_le (path_cmp path other) ≡ true

-- the row of a path that leads to an inode
pub record IsInodeRow (image : Image) (ranges : List MapRange) (items : List TreeItem) (rows : List WholeRow) (ino : ℕ) (row : WholeRow) : Type 0 where
  pub leads : LeadsToTarget items top row.path (inode ino)
  pub own : Inode
  pub has : inode_on items ino ≡ Some own
  pub fields : HasInode own row
  pub least : IsLeastPath items ino row.least
  pub names : row.names ≡ (if is_directory row.kind then 0 else name_count rows row.least)
  pub bytes : row.bytes ≡ (if has_bytes row.kind then bytes_of_inode image ranges items ino own.size else [])

-- a row that is this kind at this path, and nothing else
abbrev pub subvolume_row : NameList → WholeRow
subvolume_row path =
    record {
      path = path;
      kind = Subvolume;
      mode = 0;
      uid = 0;
      gid = 0;
      atime = record { sec = pos 0; nsec = 0 };
      mtime = record { sec = pos 0; nsec = 0 };
      ctime = record { sec = pos 0; nsec = 0 };
      sync = false;
      immutable = false;
      append = false;
      nodump = false;
      noatime = false;
      major = 0;
      minor = 0;
      least = path;
      names = 0;
      bytes = [];
    }

-- the row of a path that leads to another tree
pub record IsTreeRow (items : List TreeItem) (number : ℕ) (row : WholeRow) : Type 0 where
  pub leads : LeadsToTarget items top row.path (tree number)
  pub is : row ≡ subvolume_row row.path

abbrev pub IsRowOf : Image → List MapRange → List TreeItem → List WholeRow → Target → WholeRow → Type 0
IsRowOf image ranges items rows (inode ino) row = IsInodeRow image ranges items rows ino row
IsRowOf image ranges items rows (tree number) row = IsTreeRow items number row

-- The rows of a file tree with these items, which ascend by path: one for each path, and no others.
pub record AreRows (image : Image) (ranges : List MapRange) (items : List TreeItem) (rows : List WholeRow) : Type 0 where
  pub ascends : AscendsByPath rows
  pub each : (row : WholeRow) → Contains rows row → (to : Target) × IsRowOf image ranges items rows to row
  pub whole : (path : NameList) (to : Target) → LeadsToTarget items top path to → (row : WholeRow) × Contains rows row × (row.path ≡ path)

-- a named file or symlink whose extents break a rule
pub record BreaksExtents (ranges : List MapRange) (items : List TreeItem) (r : BtrRefusal) : Type 0 where
  pub ino : ℕ
  pub named : IsNamedInode items ino
  pub kind : HasKind items ino File ⊎ HasKind items ino Symlink
  pub among : Contains (extents_refusals ranges 0 0 (extents_of items ino)) r

-- The refusals of the file tree, number 5, of an opened volume with this superblock and this map.
abbrev pub roots_on : Image → Super → List MapRange → List TreeItem
roots_on image s ranges = found image ranges (root_tree s)

pub data IsFileTreeRefusal (image : Image) (s : Super) (ranges : List MapRange) (r : BtrRefusal) : Type 0 where
  no_root_item : root_item FS_TREE (roots_on image s ranges) ≡ None → r ≡ BadBtrfs s.root NoInode → IsFileTreeRefusal image s ranges r
  bad_root_item : (i : TreeItem) → root_item FS_TREE (roots_on image s ranges) ≡ Some i → pointer_of i.body ≡ None → r ≡ BadBtrfs i.leaf Body → IsFileTreeRefusal image s ranges r
  bad_tree : (i : TreeItem) (p : NodePointer) → root_item FS_TREE (roots_on image s ranges) ≡ Some i → pointer_of i.body ≡ Some p → Contains (wrong image ranges (tree_of s FS_TREE p)) r → IsFileTreeRefusal image s ranges r
  bad_names : (i : TreeItem) (p : NodePointer) → root_item FS_TREE (roots_on image s ranges) ≡ Some i → pointer_of i.body ≡ Some p → BreaksNames (has_root (roots_on image s ranges)) (found image ranges (tree_of s FS_TREE p)) p.address r → IsFileTreeRefusal image s ranges r
  bad_extents : (i : TreeItem) (p : NodePointer) → root_item FS_TREE (roots_on image s ranges) ≡ Some i → pointer_of i.body ≡ Some p → BreaksExtents ranges (found image ranges (tree_of s FS_TREE p)) r → IsFileTreeRefusal image s ranges r

-- Nothing is wrong with the file tree, so that its rows can be read.
abbrev pub CanBeRead : Image → Super → List MapRange → Type 0
CanBeRead image s ranges = (r : BtrRefusal) → ¬ IsFileTreeRefusal image s ranges r

-- The rows of a volume that can be opened, and whose file tree has no refusal.
pub record AreBtrfsRows (image : Image) (s : Super) (ranges : List MapRange) (rows : List WholeRow) : Type 0 where
  pub readable : (r : BtrRefusal) → ¬ IsFileTreeRefusal image s ranges r
  pub item : TreeItem
  pub has_item : root_item FS_TREE (roots_on image s ranges) ≡ Some item
  pub at : NodePointer
  pub has_root : pointer_of item.body ≡ Some at
  pub rows_are : AreRows image ranges (found image ranges (tree_of s FS_TREE at)) rows

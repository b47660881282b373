-- The row that is made for each path of a file tree.
use Rattle.std.specs.Prelude.{◌≡◌, ◌≢◌, ◌⊎◌, ℕ, ◌/◌, ◌%◌, ◌^◌, ◌==◌, pos, not, Bool, ◌&&◌, List, [], Option, unwrap_or, if◌then◌else◌}
use Rattle.btr_reader_walk.specs.outside.History.{Image}
use Rattle.btr_reader_walk.specs.refusals.declared.answer.BtrAnswer.{BtrAnswer}
use Rattle.btr_reader_walk.specs.refusals.declared.answer.BtrAnswer.TheVariants.{Refused, Fault, Memory}
use Rattle.btr_reader_walk.specs.refusals.declared.refusal.BtrRefusal.TheVariants.{LogPending}
use Rattle.btr_super.specs.declared.superblock.Super.{Super}
use Rattle.btr_reader_walk.specs.btr_keys.declared.inode.Inode.{Inode}
use Rattle.btr_reader_walk.specs.declared.map.MapRange.{MapRange}
use Rattle.btr_reader_walk.specs.Events.{TreeItem}
use Rattle.fs_paths.specs.fs_rows.Rows.{NameList, WholeRow}
use Rattle.fs_paths.specs.fs_rows.declared.row.Kind.{Kind}
use Rattle.fs_paths.specs.fs_rows.declared.row.Kind.TheVariants.{File}
use Rattle.fs_paths.specs.declared.node_link.PathTo.{PathTo}
use Rattle.fs_paths.specs.declared.node.NodeId.{NodeId}
use Rattle.fs_paths.specs.fs_rows.declared.content.Content.{Content}
use Rattle.btr_reader_contents.specs.Contents.{wanted_at, HasContents}
use Rattle.btr_reader_names.specs.declared.table.NameTable.{NameTable}
use Rattle.btr_reader_names.specs.Inodes.{inode_on, kind_of_mode}
use Rattle.fs_paths.specs.fs_rows.Kinds.{is_directory, is_symlink, is_device, has_bytes}
use Rattle.btr_reader_names.specs.Rules.{KeepsNames, BreaksNames}
use Rattle.btr_reader_names.specs.Steps.{AreNamed, links_of}
use Rattle.btr_reader_names.specs.Table.{HasNotedNames}
use Rattle.btr_reader_names.specs.TreeLinks.{AreTreeLinks}
use Rattle.btr_reader_contents.specs.Extents.{bytes_of_inode}
use Rattle.fs_paths.specs.Paths.{first_path}
use Rattle.btr_reader.specs.Rows.{time_of, has_flag, subvolume_row, IsFileTreeRefusal}

-- the row of an inode at a path
abbrev pub row_by : Inode → Kind → NameList → NameList → ℕ → List ℕ → WholeRow
row_by own kind path least names bytes = record {
  path = path;
  kind = kind;
  mode = own.mode % 4096;
  uid = own.uid;
  gid = own.gid;
  atime = time_of own.atime;
  mtime = time_of own.mtime;
  ctime = time_of own.ctime;
  sync = has_flag own 5;
  immutable = not (is_symlink kind) && has_flag own 6;
  append = not (is_symlink kind) && has_flag own 7;
  nodump = has_flag own 8;
  noatime = has_flag own 9;
  major = if is_device kind then own.rdev / 2 ^ 20 else 0;
  minor = if is_device kind then own.rdev % 2 ^ 20 else 0;
  least = least;
  names = if is_directory kind then 0 else names;
  bytes = bytes;
}

-- the bytes of a file, or of the target of a symlink
abbrev pub bytes_at : Image → List MapRange → List TreeItem → ℕ → Inode → Kind → List ℕ
bytes_at image ranges items ino own kind = if has_bytes kind then bytes_of_inode image ranges items ino own.size else []

-- an inode of zeros
abbrev pub no_inode : Inode
no_inode = record {
  generation = 0;
  transid = 0;
  size = 0;
  nbytes = 0;
  block_group = 0;
  nlink = 0;
  uid = 0;
  gid = 0;
  mode = 0;
  rdev = 0;
  flags = 0;
  sequence = 0;
  atime = record { sec = pos 0; nsec = 0 };
  ctime = record { sec = pos 0; nsec = 0 };
  mtime = record { sec = pos 0; nsec = 0 };
  otime = record { sec = pos 0; nsec = 0 };
}

-- the inode with a number; each named one is there
abbrev pub own_at : List TreeItem → ℕ → Inode
own_at items ino = unwrap_or (inode_on items ino) no_inode

-- its kind, which is known of each named inode
abbrev pub kind_by_inode : Inode → Kind
kind_by_inode own = unwrap_or (kind_of_mode own.mode) File

-- the row of a path of the list to an inode
abbrev pub made_inode : Image → List MapRange → List TreeItem → List PathTo → PathTo → WholeRow
made_inode image ranges items list p =
    let own = own_at items p.target.number in
    row_by own (kind_by_inode own) p.path (first_path list p) p.names (bytes_at image ranges items p.target.number own (kind_by_inode own))

-- the row of a path of the list: an inode is in space 0, another tree in space 1
unfoldable pub made_row : Image → List MapRange → List TreeItem → List PathTo → PathTo → WholeRow
made_row image ranges items list p = if p.target.space == 0 then made_inode image ranges items list p else subvolume_row p.path

-- The rules of names are kept: what that says of the named inodes and of the links.
pub record IsChecked (names : NameTable) (named : NodeId → Bool) (items : List TreeItem) (root : ℕ) (has_root : ℕ → Bool) : Type 0 where
  pub are_named : AreNamed items named
  pub keeps : KeepsNames has_root items root
  pub links : AreTreeLinks items (links_of names named)

-- What is known of a file tree with which nothing is wrong.
pub record IsReadTree (names : NameTable) (named : NodeId → Bool) (told : ℕ → Option Content) (image : Image) (ranges : List MapRange) (items : List TreeItem) (root : ℕ) (has_root : ℕ → Bool) : Type 0 where
  pub noted : HasNotedNames names items
  pub are_named : AreNamed items named
  pub keeps : KeepsNames has_root items root
  pub links : AreTreeLinks items (links_of names named)
  pub contents : HasContents (wanted_at named items) image ranges items told

-- A log tree is answered before all else; without one it is something that is wrong with the tree, or a call failed.
abbrev pub RefusesRows : Image → Super → List MapRange → BtrAnswer → Type 0
RefusesRows image s ranges (Refused r) = ((s.log_root ≢ 0) × (r ≡ LogPending s.log_root)) ⊎ ((s.log_root ≡ 0) × IsFileTreeRefusal image s ranges r)
RefusesRows image s ranges Fault = Unit {0}
RefusesRows image s ranges Memory = Unit {0}

-- something that is wrong with the tree, or a call failed
abbrev pub RefusesTree : Image → Super → List MapRange → BtrAnswer → Type 0
RefusesTree image s ranges (Refused r) = IsFileTreeRefusal image s ranges r
RefusesTree image s ranges Fault = Unit {0}
RefusesTree image s ranges Memory = Unit {0}

-- a rule of names is broken, or a call failed
abbrev pub RefusesChecked : (ℕ → Bool) → List TreeItem → ℕ → BtrAnswer → Type 0
RefusesChecked has_root items root (Refused r) = BreaksNames has_root items root r
RefusesChecked has_root items root Fault = Unit {0}
RefusesChecked has_root items root Memory = Unit {0}

-- there was no memory
abbrev pub IsMemory : BtrAnswer → Type 0
IsMemory (Refused r) = ⊥
IsMemory Fault = ⊥
IsMemory Memory = Unit {0}

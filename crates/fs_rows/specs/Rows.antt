-- The rows of a tree with whole bytes, and their order.
use Rattle.std.specs.Prelude.{◌≡◌, ℕ, Bool, List, [], length, replicate, nat_eq, count_by}
use Rattle.std.specs.Ordering.{nat_cmp}
use Rattle.std.specs.Cmp.Lexicographic.{slice_cmp, pointwise}
use Rattle.std.specs.List.{AllAdjacentBelow}
use Rattle.std.specs.declared.cmp.Ordering.{Ordering}
use Rattle.std.specs.declared.cmp.Ordering.TheVariants.{Less}
use Rattle.fs_rows.specs.Mark.{mark_of_bytes}
use Rattle.fs_rows.specs.declared.row.Kind.{Kind}
use Rattle.fs_rows.specs.declared.row.Kind.TheVariants.{Directory, File, Symlink, Character, Block, Fifo, Socket, Subvolume}
use Rattle.fs_rows.specs.declared.row.Row.{Row}
use Rattle.fs_rows.specs.declared.row.Time.{Time}

-- a path is the list of its names, and a name is its bytes
abbrev pub NameList : Type 0
NameList = List (List ℕ)

-- What a tree has at a path: kind, mode, owners, times, flags, device, the least path of the same object, how many paths
-- that has, and the bytes of a file or the target of a symlink. What has no meaning for the kind is 0, false or empty.
pub record WholeRow : Type 0 where
  pub path : NameList
  pub kind : Kind
  pub mode : ℕ
  pub uid : ℕ
  pub gid : ℕ
  pub atime : Time
  pub mtime : Time
  pub ctime : Time
  pub sync : Bool
  pub immutable : Bool
  pub append : Bool
  pub nodump : Bool
  pub noatime : Bool
  pub major : ℕ
  pub minor : ℕ
  pub least : NameList
  pub names : ℕ
  pub bytes : List ℕ

-- the number of bytes of a file or target
abbrev pub length_by : Kind → List ℕ → ℕ
length_by File bytes = length bytes
length_by Symlink bytes = length bytes
length_by Directory bytes = 0
length_by Character bytes = 0
length_by Block bytes = 0
length_by Fifo bytes = 0
length_by Socket bytes = 0
length_by Subvolume bytes = 0

-- the mark of a file
abbrev pub mark_by : Kind → List ℕ → List ℕ
mark_by File bytes = mark_of_bytes bytes
mark_by Symlink bytes = replicate 32 0
mark_by Directory bytes = replicate 32 0
mark_by Character bytes = replicate 32 0
mark_by Block bytes = replicate 32 0
mark_by Fifo bytes = replicate 32 0
mark_by Socket bytes = replicate 32 0
mark_by Subvolume bytes = replicate 32 0

-- the target of a symlink
abbrev pub target_by : Kind → List ℕ → List ℕ
target_by Symlink bytes = bytes
target_by File bytes = []
target_by Directory bytes = []
target_by Character bytes = []
target_by Block bytes = []
target_by Fifo bytes = []
target_by Socket bytes = []
target_by Subvolume bytes = []

-- a row as the program has it, with length and mark in place of a file's bytes
abbrev pub row_of : WholeRow → Row
row_of w = record {
  path = w.path;
  kind = w.kind;
  mode = w.mode;
  uid = w.uid;
  gid = w.gid;
  atime = w.atime;
  mtime = w.mtime;
  ctime = w.ctime;
  sync = w.sync;
  immutable = w.immutable;
  append = w.append;
  nodump = w.nodump;
  noatime = w.noatime;
  major = w.major;
  minor = w.minor;
  least = w.least;
  names = w.names;
  length = length_by w.kind w.bytes;
  mark = mark_by w.kind w.bytes;
  target = target_by w.kind w.bytes;
}

-- the order of paths: as lists of names, a prefix first, and names by their bytes
abbrev pub path_cmp : NameList → NameList → Ordering
path_cmp p q = slice_cmp (slice_cmp nat_cmp) p q

-- each row's path is above that of the row before it
abbrev pub AscendsByPath : List WholeRow → Type 0
AscendsByPath rows = AllAdjacentBelow (λ a b. path_cmp a.path b.path ≡ Less) rows (length rows)

abbrev pub is_same_path : NameList → NameList → Bool
is_same_path p q = pointwise (pointwise nat_eq) p q

-- how many rows have this path as the least one of their object
abbrev pub name_count : List WholeRow → NameList → ℕ
name_count rows least = count_by (λ row. is_same_path row.least least) rows

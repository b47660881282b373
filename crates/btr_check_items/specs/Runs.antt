-- The file extents of one inode, one after the other.
use Rattle.std.specs.Prelude.{◌≡◌, ◌≢◌, ◌⊎◌, ◌≤◌, ◌<◌, ℕ, ◌+◌, ◌%◌, ◌^◌, ◌==◌, if◌then◌else◌, Bool, true, false, not, ◌&&◌, ◌||◌, nat_le, nat_lt, List, Option, Some, None, All, AllPairs, Any}
use Rattle.std.specs.List.{sum_by}
use Rattle.btr_check_rules.specs.btr_reader.btr_reader_walk.btr_keys.btrfs_format.declared.feature.TheConstants.{NO_HOLES}
use Rattle.btr_check_rules.specs.btr_reader.fs_rows.Kinds.{has_bytes}
use Rattle.btr_check_rules.specs.btr_reader.fs_rows.declared.row.Kind.{Kind}
use Rattle.btr_check_rules.specs.btr_reader.btr_keys.FileExtent.{FileExtentValue, file_extent_of}
use Rattle.btr_check_rules.specs.btr_reader.btr_keys.declared.inode.Inode.{Inode}
use Rattle.btr_check_rules.specs.btr_reader.btr_node.Leaf.{Item}
use Rattle.btr_check_rules.specs.btr_reader.btr_reader_names.Inodes.{kind_of_mode}
use Rattle.btr_check_rules.specs.btr_reader.btr_super.declared.superblock.Super.{Super}
use Rattle.btr_check_rules.specs.Files.{EndsBefore, EndsInFile, HoldsByte, KeepsContent, NeedsSums, covered}
use Rattle.btr_check_rules.specs.Inodes.{has_no_sums, nbytes_of}
use Rattle.btr_check_rules.specs.Recount.{has_feature}
use Rattle.btr_check_items.specs.ExtentTests.{keeps_extent, may_have_extents}
use Rattle.btr_check_items.specs.declared.run.ExtentRun.{ExtentRun}

-- A file extent keeps its rules, as one of this inode.
pub record IsOfInode (s : Super) (inode : Inode) (place : ℕ) (e : FileExtentValue) : Type 0 where
  pub generation : e.generation ≤ s.generation
  pub encoding : (e.encryption ≡ 0) × (e.other ≡ 0) × (e.compression ≤ 3)
  pub start : place % 4096 ≡ 0
  pub content : KeepsContent place e.ram_bytes e.compression e.content
  pub sums : NeedsSums e.compression e.content → has_no_sums inode ≡ false
  pub owner : (kind : Kind) × (kind_of_mode inode.mode ≡ Some kind) × (has_bytes kind ≡ true)

abbrev pub KeepsItem : Super → Inode → Item → Type 0
KeepsItem s inode i = (e : FileExtentValue) × (file_extent_of i.1 ≡ Some e) × IsOfInode s inode i.0.offset e

-- Each of these extents of an inode keeps its rules, ends before the next begins, and in its file.
pub record AreKept (s : Super) (inode : Inode) (items : List Item) : Type 0 where
  pub each : All (KeepsItem s inode) items
  pub apart : AllPairs EndsBefore items
  pub ends : All EndsInFile items

abbrev pub end_by : ℕ → Option FileExtentValue → ℕ
end_by place None = 0
end_by place (Some e) = place + covered e.ram_bytes e.content

-- where an extent ends in its file
abbrev pub end_of : Item → ℕ
end_of i = end_by i.0.offset (file_extent_of i.1)

-- where an extent ends that keeps its rules and stands behind the one before, which ends at this place
abbrev pub next_end : Super → Inode → ℕ → ℕ → FileExtentValue → Option ℕ
next_end s inode end place e =
    if keeps_extent s inode place e && (nat_le end place && nat_lt (place + covered e.ram_bytes e.content) (2 ^ 64)) then Some (place + covered e.ram_bytes e.content) else None

-- up to where all bytes are held, with those from a place to an end
abbrev pub whole_with : ℕ → ℕ → ℕ → ℕ
whole_with whole place end = if place == whole then end else whole

-- A run tells of some extents where the last one ends, up to where they stand for every byte of the file, and the bytes that they
-- add.
pub record IsRunOf (items : List Item) (run : ExtentRun) : Type 0 where
  pub last : All (λ i. end_of i ≤ run.end) items
  pub met : (run.end ≡ 0) ⊎ Any (λ i. end_of i ≡ run.end) items
  pub whole : (k : ℕ) → k < run.whole → Any (HoldsByte k) items
  pub next : ¬ Any (HoldsByte run.whole) items
  pub bytes : run.nbytes ≡ sum_by (λ i. nbytes_of (file_extent_of i.1)) items

-- Without the feature no holes the extents of a file with names cover it.
abbrev pub AreCovering : Super → Inode → List Item → Type 0
AreCovering s inode items =
    has_feature s NO_HOLES ≡ false → (kind : Kind) → kind_of_mode inode.mode ≡ Some kind → has_bytes kind ≡ true → inode.nlink ≢ 0
    → (k : ℕ) → k < inode.size → Any (HoldsByte k) items

-- A file or symlink with a name tells the bytes of its extents.
abbrev pub TellsBytes : Inode → List Item → Type 0
TellsBytes inode items =
    (kind : Kind) → kind_of_mode inode.mode ≡ Some kind → has_bytes kind ≡ true → inode.nlink ≢ 0
    → inode.nbytes ≡ sum_by (λ i. nbytes_of (file_extent_of i.1)) items

-- the same two, as tests
abbrev pub is_covered : Super → Inode → ℕ → Bool
is_covered s inode whole = has_feature s NO_HOLES || ((inode.nlink == 0) || (not (may_have_extents inode) || nat_le inode.size whole))

abbrev pub is_told : Inode → ℕ → Bool
is_told inode nbytes = (inode.nlink == 0) || (not (may_have_extents inode) || (inode.nbytes == nbytes))

-- The rows of a ReiserFS volume.
use Rattle.std.specs.Prelude.{◌≡◌, ℕ, ◌+◌, ◌*◌, ◌/◌, ◌%◌, ◌^◌, ◌==◌, pos, Bool, true, not, ◌&&◌, List, [], ◌∷◌, Some, Contains, if◌then◌else◌}
use Rattle.std.specs.Int.{bit_at}
use Rattle.std.specs.Ordering.{is_le}
use Rattle.reiser_bitmap.specs.outside.History.{Image}
use Rattle.reiser_super.specs.Superblock.{attrs_cleared_bit}
use Rattle.reiser_volume_objects.specs.reiser_walk.Items.{ReiserItem}
use Rattle.reiser_volume_files.specs.Bytes.{file_bytes}
use Rattle.fs_rows.specs.Rows.{NameList, WholeRow, AscendsByPath, path_cmp, name_count}
use Rattle.fs_rows.specs.declared.row.Time.{Time}
use Rattle.reiser_volume_objects.specs.declared.key.ObjectKey.{ObjectKey}
use Rattle.reiser_volume_objects.specs.declared.naming.Naming.{Naming}
use Rattle.reiser_volume_objects.specs.declared.stat.ObjectStat.{ObjectStat}
use Rattle.reiser_volume_objects.specs.Items.{stat_of_object}
use Rattle.reiser_volume_objects.specs.Keys.{root, items_of}
use Rattle.fs_rows.specs.Kinds.{is_directory, is_symlink, is_device, has_bytes}
use Rattle.reiser_volume_objects.specs.Kinds.{kind_of_mode}
use Rattle.reiser_volume_names.specs.Links.{AreLinks}

-- from one object to another by the names of a path
abbrev pub LeadsToObject : List Naming → ObjectKey → NameList → ObjectKey → Type 0
LeadsToObject links key [] target = key ≡ target
LeadsToObject links key (name ∷ names) target = (n : Naming) × Contains links n × (n.dir ≡ key) × (n.name ≡ name) × LeadsToObject links n.target names target

-- seconds, read without a sign
abbrev pub time_of : ℕ → Time
time_of sec = record { sec = pos sec; nsec = 0 }

-- a device's number is (minor mod 256) + 256·major + 2^20·(minor / 256), with major below 4096
abbrev pub major_of : ℕ → ℕ
major_of number = number / 256 % 4096

abbrev pub minor_of : ℕ → ℕ
minor_of number = number % 256 + 256 * (number / 2 ^ 20)

-- The bits of the attributes of stat data, by the names of the Linux headers: REISERFS_SYNC_FL is 8, REISERFS_IMMUTABLE_FL
-- 0x10, REISERFS_APPEND_FL 0x20, REISERFS_NODUMP_FL 0x40 and REISERFS_NOATIME_FL 0x80.
abbrev pub sync_bit : ℕ
sync_bit = 3

abbrev pub immutable_bit : ℕ
immutable_bit = 4

abbrev pub append_bit : ℕ
append_bit = 5

abbrev pub nodump_bit : ℕ
nodump_bit = 6

abbrev pub noatime_bit : ℕ
noatime_bit = 7

-- Bit b of the attributes, which count where the superblock's flag reiserfs_attrs_cleared is set and the stat data has
-- version 1.
abbrev pub flag : ℕ → ObjectStat → ℕ → Bool
flag flags stat b = (bit_at flags attrs_cleared_bit == 1) && (not stat.old_form && (bit_at stat.fields.attrs b == 1))

-- what a path's row has from the stat data of its object: all but path, least, names and bytes
pub record HasStat (flags : ℕ) (stat : ObjectStat) (row : WholeRow) : Type 0 where
  pub kind : kind_of_mode stat.fields.mode ≡ Some row.kind
  pub mode : row.mode ≡ stat.fields.mode % 4096
  pub uid : row.uid ≡ stat.fields.uid
  pub gid : row.gid ≡ stat.fields.gid
  pub atime : row.atime ≡ time_of stat.fields.atime
  pub mtime : row.mtime ≡ time_of stat.fields.mtime
  pub ctime : row.ctime ≡ time_of stat.fields.ctime
  pub sync : row.sync ≡ flag flags stat sync_bit
  -- of a symlink these two mean nothing
  pub immutable : row.immutable ≡ (not (is_symlink row.kind) && flag flags stat immutable_bit)
  pub append : row.append ≡ (not (is_symlink row.kind) && flag flags stat append_bit)
  pub nodump : row.nodump ≡ flag flags stat nodump_bit
  pub noatime : row.noatime ≡ flag flags stat noatime_bit
  pub major : row.major ≡ (if is_device row.kind then major_of stat.fields.rdev else 0)
  pub minor : row.minor ≡ (if is_device row.kind then minor_of stat.fields.rdev else 0)

-- a path of the object, and no path of it is below
pub record IsLeastPath (links : List Naming) (key : ObjectKey) (path : NameList) : Type 0 where
  pub leads : LeadsToObject links root path key
  pub least : (other : NameList) → LeadsToObject links root other key → is_le (path_cmp path other) ≡ true

-- the row of a path that leads to an object
pub record IsRow (image : Image) (flags : ℕ) (items : List ReiserItem) (links : List Naming) (rows : List WholeRow) (key : ObjectKey) (row : WholeRow) : Type 0 where
  pub leads : LeadsToObject links root row.path key
  pub stat : ObjectStat
  pub has_stat : stat_of_object items key ≡ Some stat
  pub fields : HasStat flags stat row
  pub least : IsLeastPath links key row.least
  pub names : row.names ≡ (if is_directory row.kind then 0 else name_count rows row.least)
  pub bytes : row.bytes ≡ (if has_bytes row.kind then file_bytes image (items_of key items) stat.fields.size else [])

-- The rows, which ascend by path: one for each path of a named object, and no others.
pub record AreReiserRows (image : Image) (flags : ℕ) (items : List ReiserItem) (rows : List WholeRow) : Type 0 where
  pub visible : List Naming
  pub links : List Naming
  pub are_links : AreLinks items visible links
  pub ascends : AscendsByPath rows
  pub each : (row : WholeRow) → Contains rows row → (key : ObjectKey) × IsRow image flags items links rows key row
  pub whole : (path : NameList) (key : ObjectKey) → LeadsToObject links root path key → (row : WholeRow) × Contains rows row × (row.path ≡ path)

-- The row that is made for each path of a volume.
use Rattle.std.specs.Prelude.{◌≡◌, ℕ, ◌%◌, false, ◌&&◌, not, List, [], Some, unwrap_or, if◌then◌else◌}
use Rattle.reiser_bitmap.specs.outside.History.{Image}
use Rattle.fs_rows.specs.Rows.{NameList, WholeRow}
use Rattle.fs_rows.specs.declared.row.Kind.{Kind}
use Rattle.fs_rows.specs.declared.row.Kind.TheVariants.{File}
use Rattle.fs_paths.specs.declared.node_link.PathTo.{PathTo}
use Rattle.fs_paths.specs.Paths.{first_path}
use Rattle.reiser_volume_objects.specs.reiser_walk.Items.{ReiserItem}
use Rattle.reiser_volume_files.specs.Bytes.{file_bytes}
use Rattle.reiser_volume_objects.specs.declared.key.ObjectKey.{ObjectKey}
use Rattle.reiser_volume_objects.specs.declared.stat.ObjectStat.{ObjectStat}
use Rattle.reiser_volume_objects.specs.Items.{stat_of_object}
use Rattle.reiser_volume_objects.specs.Keys.{items_of}
use Rattle.fs_rows.specs.Kinds.{is_directory, is_symlink, is_device, has_bytes}
use Rattle.reiser_volume_objects.specs.Kinds.{kind_of_mode}
use Rattle.reiser_volume_objects.specs.Names.{IsNamed}
use Rattle.reiser_volume.specs.declared.row.KnownObject.{KnownObject}
use Rattle.reiser_volume.specs.declared.volume.Volume.{Volume}
use Rattle.reiser_volume.specs.Opened.{IsOpened}
use Rattle.reiser_volume.specs.Rows.{flag, sync_bit, immutable_bit, append_bit, nodump_bit, noatime_bit, major_of, minor_of, time_of}
use Rattle.reiser_volume.specs.Volume.{IsAccepted, volume_items, superblock}
use Rattle.reiser_volume_objects.specs.Nodes.{key_at}

-- the row of an object at a path
abbrev pub row_by : ℕ → ObjectStat → Kind → NameList → NameList → ℕ → List ℕ → WholeRow
row_by flags stat kind path least names bytes = record {
  path = path;
  kind = kind;
  mode = stat.fields.mode % 4096;
  uid = stat.fields.uid;
  gid = stat.fields.gid;
  atime = time_of stat.fields.atime;
  mtime = time_of stat.fields.mtime;
  ctime = time_of stat.fields.ctime;
  sync = flag flags stat sync_bit;
  immutable = not (is_symlink kind) && flag flags stat immutable_bit;
  append = not (is_symlink kind) && flag flags stat append_bit;
  nodump = flag flags stat nodump_bit;
  noatime = flag flags stat noatime_bit;
  major = if is_device kind then major_of stat.fields.rdev else 0;
  minor = if is_device kind then minor_of stat.fields.rdev else 0;
  least = least;
  names = if is_directory kind then 0 else names;
  bytes = bytes;
}

-- the bytes of a file, or of the target of a symlink
abbrev pub bytes_at : Image → List ReiserItem → ObjectKey → ObjectStat → Kind → List ℕ
bytes_at image items key stat kind = if has_bytes kind then file_bytes image (items_of key items) stat.fields.size else []

-- the stat data of an object and its kind
pub record IsKnownAt (items : List ReiserItem) (key : ObjectKey) (known : KnownObject) : Type 0 where
  pub stat : stat_of_object items key ≡ Some known.stat
  pub kind : kind_of_mode known.stat.fields.mode ≡ Some known.kind

-- a named object of an accepted volume that was opened
pub record IsOfVolume (image : Image) (volume : Volume) (key : ObjectKey) : Type 0 where
  pub accepted : IsAccepted image
  pub opened : IsOpened volume image
  pub named : IsNamed (volume_items image) key

-- stat data of zeros
abbrev pub no_stat : ObjectStat
no_stat = record {
  leaf = 0;
  old_form = false;
  fields = record { mode = 0; attrs = 0; nlink = 0; size = 0; uid = 0; gid = 0; atime = 0; mtime = 0; ctime = 0; blocks = 0; rdev = 0; first_direct_byte = 0 };
}

-- the stat data of an object; each named one has it
abbrev pub stat_at : List ReiserItem → ObjectKey → ObjectStat
stat_at items key = unwrap_or (stat_of_object items key) no_stat

-- its kind, which is known of each named object
abbrev pub kind_by : ObjectStat → Kind
kind_by stat = unwrap_or (kind_of_mode stat.fields.mode) File

-- the row of a path of the list
unfoldable pub whole_row : Image → List PathTo → PathTo → WholeRow
whole_row image list p =
    let items = volume_items image in
    let key = key_at p.target in
    let stat = stat_at items key in
    row_by (superblock image).flags stat (kind_by stat) p.path (first_path list p) p.names (bytes_at image items key stat (kind_by stat))

-- The inode of an object of a ReiserFS volume.
use Rattle.std.specs.Prelude.{ℕ, ◌+◌, ◌*◌, ◌^◌, Bool, not, ◌&&◌, if◌then◌else◌}
use Rattle.btr_item_list.specs.btrfs_format.declared.flag.TheConstants.{INODE_APPEND, INODE_IMMUTABLE, INODE_NOATIME, INODE_NODATASUM, INODE_NODUMP, INODE_SYNC}
use Rattle.unit_plan.specs.btr_keys.declared.inode.Inode.{Inode}
use Rattle.reiser_volume_objects.specs.fs_rows.Kinds.{is_device, is_file, is_symlink}
use Rattle.reiser_volume_objects.specs.fs_rows.declared.row.Kind.{Kind}
use Rattle.btr_item_list.specs.Inodes.{stamp_of, new_inode}
use Rattle.reiser_volume_objects.specs.declared.stat.ObjectStat.{ObjectStat}
use Rattle.reiser_volume.specs.Rows.{flag, major_of, minor_of}

abbrev pub if_set : Bool → ℕ → ℕ
if_set test bit = if test then bit else 0

-- Flags. Immutable and append mean nothing on a symlink.
abbrev pub inode_flags : Bool → ℕ → ObjectStat → Kind → ℕ
inode_flags datasum flags stat kind =
    if_set (is_file kind && not datasum) INODE_NODATASUM
    + (if_set (flag flags stat 3) INODE_SYNC
    + (if_set (not (is_symlink kind) && flag flags stat 4) INODE_IMMUTABLE
    + (if_set (not (is_symlink kind) && flag flags stat 5) INODE_APPEND
    + (if_set (flag flags stat 6) INODE_NODUMP
    + if_set (flag flags stat 7) INODE_NOATIME))))

-- the number of a device, as Btrfs has it
abbrev pub device_number : ObjectStat → Kind → ℕ
device_number stat kind = if is_device kind then major_of stat.fields.rdev * 2 ^ 20 + minor_of stat.fields.rdev else 0

-- the inode of an object with this stat data
abbrev pub inode_from : Bool → ℕ → ObjectStat → Kind → ℕ → ℕ → ℕ → Inode
inode_from datasum flags stat kind size nbytes nlink = record new_inode {
  size = size;
  nbytes = nbytes;
  nlink = nlink;
  uid = stat.fields.uid;
  gid = stat.fields.gid;
  mode = stat.fields.mode;
  rdev = device_number stat kind;
  flags = inode_flags datasum flags stat kind;
  atime = stamp_of stat.fields.atime;
  ctime = stamp_of stat.fields.ctime;
  mtime = stamp_of stat.fields.mtime;
}

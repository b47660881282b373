-- Stat data, as ReiserFS has it (struct stat_data and struct stat_data_v1 of Linux's fs/reiserfs/reiserfs.h).
use Rattle.std.specs.Prelude.{ℕ, Bool, ◌==◌, List, length, Option, Some, None, if◌then◌else◌}
use Rattle.reiser_node.specs.reiserfs_format.declared.size.TheConstants.{SD_SIZE, SD_V1_SIZE}
use Rattle.reiser_node.specs.vol_block.Volume.{field}
use Rattle.reiser_items.specs.declared.stat.StatData.{StatData}

-- version 1
abbrev pub new_stat : List ℕ → StatData
new_stat body =
    record {
      mode = field 2 body 0;
      attrs = field 2 body 2;
      nlink = field 4 body 4;
      size = field 8 body 8;
      uid = field 4 body 16;
      gid = field 4 body 20;
      atime = field 4 body 24;
      mtime = field 4 body 28;
      ctime = field 4 body 32;
      blocks = field 4 body 36;
      rdev = field 4 body 40;
      first_direct_byte = 0;
    }

-- version 0, where one field is the number of a device, or else of units of 512 bytes
abbrev pub old_stat : List ℕ → StatData
old_stat body =
    record {
      mode = field 2 body 0;
      attrs = 0;
      nlink = field 2 body 2;
      size = field 4 body 8;
      uid = field 2 body 4;
      gid = field 2 body 6;
      atime = field 4 body 12;
      mtime = field 4 body 16;
      ctime = field 4 body 20;
      blocks = field 4 body 24;
      rdev = field 4 body 24;
      first_direct_byte = field 4 body 28;
    }

abbrev pub stat_length : Bool → ℕ
stat_length old = if old then SD_V1_SIZE else SD_SIZE

abbrev pub stat_fields : Bool → List ℕ → StatData
stat_fields old body = if old then old_stat body else new_stat body

-- the stat data that is the whole body, in version 0 if it is old
abbrev pub stat_of : Bool → List ℕ → Option StatData
stat_of old body = if length body == stat_length old then Some (stat_fields old body) else None

-- The fields of the superblock of ReiserFS 3.6, as `struct reiserfs_super_block` of the Linux headers has them.
use Rattle.std.specs.Prelude.{ℕ, List, slice_range}
use Rattle.refusals.specs.vol_block.Volume.{field}
use Rattle.reiser_super.specs.declared.superblock.Super.{Super}

abbrev pub superblock_fields : List ℕ → Super
superblock_fields bytes = record {
  blocks = field 4 bytes 0;
  free = field 4 bytes 4;
  root = field 4 bytes 8;
  height = field 2 bytes 68;
  journal_first = field 4 bytes 12;
  journal_size = field 4 bytes 20;
  flags = field 4 bytes 80;
  uuid = slice_range bytes 84 100;
  label = slice_range bytes 100 116;
}

abbrev pub journal_device : List ℕ → ℕ
journal_device bytes = field 4 bytes 16

abbrev pub block_size : List ℕ → ℕ
block_size bytes = field 2 bytes 44

-- 1 after an unmount
abbrev pub mount_state : List ℕ → ℕ
mount_state bytes = field 2 bytes 50

-- not 0 where the checker has found damage
abbrev pub checker_state : List ℕ → ℕ
checker_state bytes = field 2 bytes 62

-- The bit of the flags that says that the attributes of all stat data were cleared at first, and so mean something:
-- reiserfs_attrs_cleared, 1, of the Linux headers.
abbrev pub attrs_cleared_bit : ℕ
attrs_cleared_bit = 0

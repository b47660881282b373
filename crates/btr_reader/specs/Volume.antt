-- What an opened volume is of a disk.
use Rattle.std.specs.Prelude.{◌≡◌, length}
use Rattle.btr_reader_walk.specs.outside.History.{Image}
use Rattle.btr_reader.specs.declared.volume.Btrfs.{Btrfs}
use Rattle.btr_reader.specs.Opening.{IsBtrfsOpened}
use Rattle.btr_reader.specs.Roots.{HasRoots}
use Rattle.btr_reader.specs.Rows.{roots_on}

-- The volume was opened on this disk: its superblock, its map and its root items are those of the disk.
pub record IsVolumeOn (image : Image) (volume : Btrfs) : Type 0 where
  pub size : length image ≡ volume.device
  pub opened : IsBtrfsOpened image volume.sup volume.ranges.items
  pub roots : HasRoots volume.roots (roots_on image volume.sup volume.ranges.items)

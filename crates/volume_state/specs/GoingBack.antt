-- A Btrfs volume from which the volume before can be had back.
use Rattle.std.specs.Prelude.{◌≡◌, List, Bool, None}
use Rattle.reiser_bitmap.specs.outside.History.{Image}
use Rattle.btr_reader.specs.Parts.{IsReadable, SavedImage, log_tree}
use Rattle.reiser_volume.specs.Volume.{IsAccepted, superblock, used_of}
use Rattle.volume_state.specs.Moved.{AreInPlace}
use Rattle.volume_state.specs.Saved.{IsImageMissing, image_blocks, saved_place}
use Rattle.volume_state.specs.Using.{IsReservedFree}

-- the blocks that the old volume uses, by the bitmap in its image
abbrev pub old_used : Image → List Bool
old_used disk = used_of (image_blocks disk)

-- No log tree waits, and what lies on the way to the saved image is readable: the superblock, the chunks and the root tree; the nodes of the
-- file tree and of the tree of the image, and the names of the root directory in both; and the image's inode and extents. No other body of
-- these trees has to be: neither inodes nor names nor extents of files.
pub record HasReadableWay (disk : Image) : Type 0 where
  pub log : log_tree disk ≡ None
  pub readable : IsReadable disk SavedImage

-- The way to the saved image is readable. The image is there and is an accepted ReiserFS volume; each block that it uses and which is not
-- reserved lies in its place; and no reserved block is in use. All else may have changed since the conversion.
pub record CanGoBack (disk : Image) : Type 0 where
  pub way : HasReadableWay disk
  pub there : ¬ IsImageMissing disk
  pub accepted : IsAccepted (image_blocks disk)
  pub in_place : AreInPlace (saved_place disk) (old_used disk)
  pub reserved : IsReservedFree disk (superblock (image_blocks disk)).blocks

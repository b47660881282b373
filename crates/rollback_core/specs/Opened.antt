-- What was opened on the way to the old volume.
use Rattle.std.specs.Prelude.{◌≡◌, ◌≤◌, ◌<◌, ℕ, Bool, List, None, length, min}
use Rattle.btr_reader.specs.btrfs_format.declared.block.TheConstants.{SUPER_BLOCK}
use Rattle.reiser_bitmap.specs.outside.Format.{format_in}
use Rattle.reiser_bitmap.specs.outside.History.{Image, block_at}
use Rattle.reiser_bitmap.specs.vol_block.declared.block.Block.{Block}
use Rattle.reiser_bitmap.specs.vol_block.declared.format.Format.TheVariants.{Btrfs}
use Rattle.btr_reader.specs.Parts.{log_tree}
use Rattle.btr_reader.specs.Pieces.{map_place}
use Rattle.btr_reader.specs.Volume.{IsVolumeOn}
use Rattle.btr_reader.specs.declared.image_map.ImageMap.{ImageMap}
use Rattle.btr_reader.specs.declared.volume.Btrfs.{Btrfs as Opened}
use Rattle.volume_state.specs.Saved.{blocks_by_map, image_blocks, saved_place}
use Rattle.volume_state.specs.GoingBack.{old_used}
use Rattle.reiser_volume.specs.declared.volume.Volume.{Volume}
use Rattle.rollback_core.specs.RollbackAnswers.{HasImage, HasVolume}

-- the block is block 16 of a disk with a Btrfs volume
pub record IsBtrfsOn (disk : Image) (block : Block) : Type 0 where
  pub format : format_in disk ≡ Btrfs
  pub block_is : block.bytes ≡ block_at disk SUPER_BLOCK

-- the volume was opened on the disk, and has no log tree
pub record IsOpenedOn (disk : Image) (volume : Opened) : Type 0 where
  pub format : format_in disk ≡ Btrfs
  pub opened : IsVolumeOn disk volume
  pub log : log_tree disk ≡ None

-- The saved image is there, and the map is that of its blocks.
pub record IsMapOn (disk : Image) (m : ImageMap) : Type 0 where
  pub image : HasImage disk
  pub places : (b : ℕ) → map_place m b ≡ saved_place disk b
  pub blocks : blocks_by_map m disk ≡ image_blocks disk

-- the volume was opened in the saved image
pub record IsOldOf (disk : Image) (old : Volume) : Type 0 where
  pub volume : HasVolume disk
  pub bitmap : old.bitmap ≡ old_used disk

-- A volume with these used blocks has a superblock, and lies within its image on a device of so many blocks.
pub record LiesWithin (used : List Bool) (m : ImageMap) (device : ℕ) : Type 0 where
  pub superblock : 16 < length used
  pub inside : length used ≤ min m.blocks device

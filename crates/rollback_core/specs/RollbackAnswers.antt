-- What a rollback may answer.
use Rattle.std.specs.Prelude.{◌≡◌}
use Rattle.reiser_bitmap.specs.outside.Format.{format_in}
use Rattle.reiser_bitmap.specs.outside.History.{Image}
use Rattle.convert_steps.specs.command_answers.declared.answer.Answer.{Answer}
use Rattle.reiser_bitmap.specs.refusals.declared.refusal.VolumeRefusal.TheVariants.{NotVolume}
use Rattle.reiser_bitmap.specs.vol_block.Volume.{IsReserved}
use Rattle.reiser_bitmap.specs.vol_block.declared.format.Format.TheVariants.{Btrfs, Neither, Reiser}
use Rattle.volume_state.specs.Moved.{AreInPlace, IsMoved}
use Rattle.volume_state.specs.Saved.{IsImageMissing, image_blocks, saved_place}
use Rattle.volume_state.specs.Using.{IsInUse, IsWayRefusal}
use Rattle.reiser_volume.specs.Volume.{IsAccepted, IsRefusal, superblock}
use Rattle.volume_state.specs.GoingBack.{HasReadableWay, old_used}
use Rattle.convert_steps.specs.command_answers.declared.answer.Answer.TheVariants as answer

-- The order of the refusals: each is looked for where those before are not found.
-- the way to the image is readable
pub record LeadsToImage (disk : Image) : Type 0 where
  pub format : format_in disk ≡ Btrfs
  pub way : HasReadableWay disk

-- the image is there
pub record HasImage (disk : Image) : Type 0 where
  pub leads : LeadsToImage disk
  pub there : ¬ IsImageMissing disk

-- and it is an accepted volume
pub record HasVolume (disk : Image) : Type 0 where
  pub image : HasImage disk
  pub accepted : IsAccepted (image_blocks disk)

-- of which no block was moved
pub record HasPlaces (disk : Image) : Type 0 where
  pub volume : HasVolume disk
  pub in_place : AreInPlace (saved_place disk) (old_used disk)

-- The answer where a disk is not rolled back.
abbrev pub RefusesRollback : Image → Answer → Type 0
RefusesRollback disk (answer.Volume r) = (format_in disk ≡ Neither) × (r ≡ NotVolume)
RefusesRollback disk (answer.Btr r) = (format_in disk ≡ Btrfs) × IsWayRefusal disk r
RefusesRollback disk (answer.NoSpace needed free run_needed longest) = ⊥
RefusesRollback disk answer.WrongFormat = format_in disk ≡ Reiser
RefusesRollback disk answer.ImageMissing = LeadsToImage disk × IsImageMissing disk
RefusesRollback disk (answer.ImageDamaged r) = HasImage disk × IsRefusal (image_blocks disk) r
RefusesRollback disk (answer.ImageMoved b) = HasVolume disk × IsMoved (saved_place disk) (old_used disk) b
RefusesRollback disk (answer.ReservedUsed b) = HasPlaces disk × IsReserved b (superblock (image_blocks disk)).blocks × IsInUse disk b
RefusesRollback disk (answer.NotSound part address) = ⊥
RefusesRollback disk (answer.ImageShared tree) = ⊥
RefusesRollback disk answer.Fault = Unit {0}
RefusesRollback disk answer.Memory = Unit {0}

-- what may be answered whatever the disk gives
abbrev pub IsRollbackAnswer : Answer → Type 0
IsRollbackAnswer (answer.Volume r) = r ≡ NotVolume
IsRollbackAnswer (answer.Btr r) = Unit {0}
IsRollbackAnswer (answer.NoSpace needed free run_needed longest) = ⊥
IsRollbackAnswer answer.WrongFormat = Unit {0}
IsRollbackAnswer answer.ImageMissing = Unit {0}
IsRollbackAnswer (answer.ImageDamaged r) = Unit {0}
IsRollbackAnswer (answer.ImageMoved b) = Unit {0}
IsRollbackAnswer (answer.ReservedUsed b) = Unit {0}
IsRollbackAnswer (answer.NotSound part address) = ⊥
IsRollbackAnswer (answer.ImageShared tree) = ⊥
IsRollbackAnswer answer.Fault = Unit {0}
IsRollbackAnswer answer.Memory = Unit {0}

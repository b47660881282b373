-- What `recover` may answer.
use Rattle.std.specs.Prelude.{◌≡◌, ◌≢◌, length, Err}
use Rattle.btr_reader.specs.btrfs_format.declared.block.TheConstants.{SUPER_BLOCK}
use Rattle.reiser_bitmap.specs.outside.Format.{format_in}
use Rattle.reiser_bitmap.specs.outside.History.{Image, block_at}
use Rattle.convert_steps.specs.command_answers.declared.answer.Answer.{Answer}
use Rattle.convert_steps.specs.command_answers.declared.answer.Answer.TheVariants as answer
use Rattle.reiser_bitmap.specs.refusals.declared.refusal.VolumeRefusal.{VolumeRefusal}
use Rattle.reiser_bitmap.specs.refusals.declared.refusal.VolumeRefusal.TheVariants.{NotVolume}
use Rattle.btr_reader.specs.btr_super.Rules.{NamesNoLog, super_of}
use Rattle.reiser_volume.specs.Front.{NamesFrontRule}
use Rattle.reiser_volume.specs.Volume.{IsFrontRefusal}
use Rattle.reiser_bitmap.specs.vol_block.declared.format.Format.{Format}
use Rattle.reiser_bitmap.specs.vol_block.declared.format.Format.TheVariants.{Reiser, Btrfs, Neither}

-- a refusal of a disk of this format, of ReiserFS what is wrong with superblock, journal or bitmap
abbrev pub IsRefusedAs : Format → Image → VolumeRefusal → Type 0
IsRefusedAs Reiser image r = IsFrontRefusal image r
IsRefusedAs Btrfs image r = ⊥
IsRefusedAs Neither image r = r ≡ NotVolume

-- The answer where a disk is not recovered: its volume keeps not all rules, or it has none. Of a Btrfs volume memory is never short.
abbrev pub RefusesRecover : Image → Answer → Type 0
RefusesRecover image (answer.Volume r) = IsRefusedAs (format_in image) image r
RefusesRecover image (answer.Btr r) = (format_in image ≡ Btrfs) × (super_of (block_at image SUPER_BLOCK) SUPER_BLOCK (length image) ≡ Err r)
RefusesRecover image (answer.NoSpace needed free run_needed longest) = ⊥
RefusesRecover image answer.WrongFormat = ⊥
RefusesRecover image answer.ImageMissing = ⊥
RefusesRecover image (answer.ImageMoved block) = ⊥
RefusesRecover image (answer.ImageDamaged r) = ⊥
RefusesRecover image (answer.ReservedUsed block) = ⊥
RefusesRecover image (answer.NotSound part address) = ⊥
RefusesRecover image (answer.ImageShared tree) = ⊥
RefusesRecover image answer.Fault = Unit {0}
RefusesRecover image answer.Memory = format_in image ≢ Btrfs

-- what may be answered whatever the disk gives
abbrev pub IsRecoverAnswer : Answer → Type 0
IsRecoverAnswer (answer.Volume r) = NamesFrontRule r
IsRecoverAnswer (answer.Btr r) = NamesNoLog r
IsRecoverAnswer (answer.NoSpace needed free run_needed longest) = ⊥
IsRecoverAnswer answer.WrongFormat = ⊥
IsRecoverAnswer answer.ImageMissing = ⊥
IsRecoverAnswer (answer.ImageMoved block) = ⊥
IsRecoverAnswer (answer.ImageDamaged r) = ⊥
IsRecoverAnswer (answer.ReservedUsed block) = ⊥
IsRecoverAnswer (answer.NotSound part address) = ⊥
IsRecoverAnswer (answer.ImageShared tree) = ⊥
IsRecoverAnswer answer.Fault = Unit {0}
IsRecoverAnswer answer.Memory = Unit {0}

-- What a recovery and its crashes keep.
use Rattle.std.specs.Prelude.{◌≡◌, ◌≢◌, ◌⊎◌, ◌↔◌, ℕ, ◌+◌, ◌<◌, false, List, length, codes, Contains}
use Rattle.btr_reader.specs.btrfs_format.declared.block.TheConstants.{SUPER_BLOCK, SUPER_MAGIC_OFFSET}
use Rattle.reiser_bitmap.specs.outside.Format.{format_in}
use Rattle.reiser_bitmap.specs.outside.History.{Image, block_at}
use Rattle.convert_steps.specs.command_answers.declared.answer.Answer.{Answer}
use Rattle.convert_steps.specs.command_answers.declared.answer.Answer.TheVariants as answer
use Rattle.btr_reader.specs.Parts.{IsReadable, Superblock}
use Rattle.convert_steps.specs.Switch.{HasCopies, IsMirror}
use Rattle.reiser_volume.specs.fs_rows.Rows.{WholeRow}
use Rattle.btr_reader.specs.Apart.{IsSpareFree}
use Rattle.btr_reader.specs.MetadataLaws.{IsSameBtrfs}
use Rattle.reiser_volume.specs.reiser_volume_contents.Laws.{SameUsed}
use Rattle.reiser_bitmap.specs.Bits.{has}
use Rattle.reiser_volume.specs.Laws.{IsSameVolume}
use Rattle.reiser_volume.specs.Volume.{IsAccepted, IsFrontAccepted, superblock, used_of}
use Rattle.reiser_bitmap.specs.vol_block.Format.{has_bytes_at}
use Rattle.reiser_bitmap.specs.vol_block.declared.format.Format.{Format}
use Rattle.reiser_bitmap.specs.vol_block.declared.format.Format.TheVariants.{Reiser, Btrfs}
use Rattle.rollback_core.specs.RecoveryAnswers.{RefusesRecover}
use Rattle.rollback_core.specs.Mending.{blocks_of}
use Rattle.rollback_core.specs.Opens.{OpensAs}
use Rattle.rollback_core.specs.Recovered.{IsLeftByRecover, IsLeftByRecovery, IsRecoverable, IsRecovered, recover_summary, torn_blocks}

-- A recovered disk stays as it is when it is recovered again: no block is to be written. And after a crash of a recovery of a Btrfs volume
-- another one makes of the disk what the first would have made. On a ReiserFS volume a crash may have wiped a block without use in part.
pub record RecoveryStays : Type 0 where
  pub stays : (image other : Image) → IsRecovered image other → IsRecovered other other
  pub idle : (image other : Image) → IsRecovered image other → (recover_summary other).mirrors ≡ 0
  pub again : (image left other : Image) → format_in image ≡ Btrfs → IsLeftByRecover image left → IsRecovered left other → IsRecovered image other

-- What a crash at any moment of a recovery leaves, also before block 16 is put back, can be recovered where the disk could.
abbrev pub RecoveryGoesOn : Type 0
RecoveryGoesOn = (image left : Image) → IsLeftByRecovery image left → IsRecoverable image → IsRecoverable left

-- The other disk has the same format and is in order where the first is, and no block differs but those of copies.
pub record IsSameBut (image other : Image) : Type 0 where
  pub size : length other ≡ length image
  pub format : format_in other ≡ format_in image
  pub can : IsRecoverable image → IsRecoverable other
  pub others : (b : ℕ) → ¬ IsMirror b → block_at other b ≡ block_at image b
  -- no used block of a ReiserFS volume differs
  pub used : format_in image ≡ Reiser → IsRecoverable image → SameUsed (used_of image) image other
  -- so an accepted one is the same volume, with the same rows
  pub volume : format_in image ≡ Reiser → IsAccepted image → IsSameVolume image other

-- So is each disk that a crash of a recovery leaves, and what a recovery makes is one of them. Where no part of a Btrfs volume lies in
-- a reserved block, it is the same volume, with the same rows and the same saved image, and so again.
pub record RecoveryKeeps : Type 0 where
  pub recovered : (image other : Image) → IsRecovered image other → IsLeftByRecover image other
  pub left : (image other : Image) → IsLeftByRecover image other → IsSameBut image other
  pub btrfs : (image other : Image) → IsSpareFree image → IsLeftByRecover image other → IsSameBtrfs image other × IsSpareFree other

-- What stands in the blocks of copies: on a Btrfs volume the copies of its superblock, on a ReiserFS volume no Btrfs superblock in a
-- block without use. A Btrfs volume whose copies stand is recovered as it is.
pub record RecoveryMends : Type 0 where
  pub copies : (image other : Image) → IsRecovered image other → format_in image ≡ Btrfs → HasCopies (block_at image SUPER_BLOCK) (blocks_of (block_at image SUPER_BLOCK)) other
  pub wiped : (image other : Image) → IsRecovered image other → format_in image ≡ Reiser
      → (b : ℕ) → IsMirror b → b + 1 < (superblock image).blocks → has (used_of image) b ≡ false → has_bytes_at (block_at other b) SUPER_MAGIC_OFFSET (codes "_BHRfS_M") ≡ false
  pub whole : (image : Image) → IsRecoverable image → format_in image ≡ Btrfs → HasCopies (block_at image SUPER_BLOCK) (blocks_of (block_at image SUPER_BLOCK)) image → IsRecovered image image

-- The blocks that are counted, no two of which are one, are those that differ.
abbrev pub RecoveryCounts : Type 0
RecoveryCounts = (image other : Image) → IsRecovered image other → (b : ℕ) → Contains (torn_blocks image) b ↔ (block_at other b ≢ block_at image b)

-- A disk that can be recovered is not refused: all that is answered is a failed call, or too little memory for a ReiserFS bitmap.
abbrev pub RecoversWhatIsInOrder : Type 0
RecoversWhatIsInOrder = (image : Image) (e : Answer) → IsRecoverable image → RefusesRecover image e → (e ≡ answer.Fault) ⊎ ((e ≡ answer.Memory) × (format_in image ≡ Reiser))

-- Each volume that is in order has its format by block 16, and none has both: the height of a ReiserFS tree, at most 7, stands where a
-- Btrfs superblock has a part of its magic. So every accepted ReiserFS volume can be recovered, and every Btrfs volume whose superblock is
-- readable.
pub record InOrderHasFormat : Type 0 where
  pub reiser : (image : Image) → IsFrontAccepted image → (format_in image ≡ Reiser) × IsRecoverable image
  pub accepted : (image : Image) → IsAccepted image → (format_in image ≡ Reiser) × IsRecoverable image
  pub btrfs : (image : Image) → IsReadable image Superblock → (format_in image ≡ Btrfs) × IsRecoverable image

-- A disk that can be opened can be recovered, as the format that it has. What a recovery makes of it, or a crash of one leaves, can be opened
-- as the same format, with the same rows.
pub record RecoveryOpens : Type 0 where
  pub left : (f : Format) (image other : Image) (rows : List WholeRow) → OpensAs f image rows → IsLeftByRecover image other → OpensAs f other rows
  pub recovers : (f : Format) (image : Image) (rows : List WholeRow) → OpensAs f image rows → (format_in image ≡ f) × IsRecoverable image

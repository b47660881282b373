-- What was read and decided before the first write.
use Rattle.std.specs.Prelude.{◌≡◌, ◌==◌, ℕ, not, All, List, filter, map}
use Rattle.std.specs.Option.{unwrap_or}
use Rattle.btr_reader.specs.btrfs_format.declared.block.TheConstants.{FIRST_MIRROR, SECOND_MIRROR, SUPER_BLOCK}
use Rattle.reiser_bitmap.specs.outside.Format.{format_in}
use Rattle.reiser_bitmap.specs.outside.History.{Image, block_at}
use Rattle.convert_steps.specs.command_answers.declared.answer.Answer.{Answer}
use Rattle.convert_steps.specs.command_answers.declared.answer.Answer.TheVariants as answer
use Rattle.reiser_bitmap.specs.refusals.declared.answer.VolAnswer.{VolAnswer}
use Rattle.reiser_bitmap.specs.refusals.declared.answer.VolAnswer.TheVariants as reiser
use Rattle.reiser_bitmap.specs.vol_block.declared.format.Format.TheVariants.{Btrfs}
use Rattle.volume_state.specs.Saved.{image_blocks, saved_place}
use Rattle.volume_state.specs.GoingBack.{CanGoBack}
use Rattle.rollback_core.specs.RolledBack.{is_wiped, restored_blocks, rollback_summary}
use Rattle.rollback_core.specs.declared.way.Saved.{Saved}
use Rattle.rollback_core.specs.declared.way.WayBack.{WayBack}

-- The blocks at these numbers of an image.
pub record AreSaved (image : Image) (numbers : List ℕ) (saved : List Saved) : Type 0 where
  pub numbers_are : map (λ s. s.at) saved ≡ numbers
  pub blocks : All (λ s. s.block.bytes ≡ block_at image s.at) saved

-- Nothing stands in the way, and this is what is to be written: the restored blocks and block 16 from the saved image, and zeros to each
-- block of a copy that is to be wiped.
pub record IsWayBack (disk : Image) (way : WayBack) : Type 0 where
  pub format : format_in disk ≡ Btrfs
  pub can : CanGoBack disk
  pub reserved : AreSaved (image_blocks disk) (filter (λ b. not (b == 16)) (restored_blocks disk)) way.reserved.items
  pub superblock : way.superblock.bytes ≡ block_at (image_blocks disk) SUPER_BLOCK
  -- where the image has it on the disk
  pub copy : way.copy ≡ unwrap_or (saved_place disk SUPER_BLOCK) SUPER_BLOCK
  pub first : way.first ≡ is_wiped disk FIRST_MIRROR
  pub second : way.second ≡ is_wiped disk SECOND_MIRROR
  pub summary_is : way.summary ≡ rollback_summary disk

-- the answer by that of the volume in the saved image
abbrev pub by_image : VolAnswer → Answer
by_image (reiser.Refused r) = answer.ImageDamaged r
by_image reiser.Fault = answer.Fault
by_image reiser.Memory = answer.Memory

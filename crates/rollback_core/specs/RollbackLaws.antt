-- What a rollback and its crashes keep.
use Rattle.std.specs.Prelude.{◌≡◌, ◌≢◌, ◌⊎◌, false}
use Rattle.btr_reader.specs.btrfs_format.declared.block.TheConstants.{SUPER_BLOCK}
use Rattle.reiser_bitmap.specs.outside.History.{Image, block_at}
use Rattle.convert_steps.specs.command_answers.declared.answer.Answer.{Answer}
use Rattle.convert_steps.specs.command_answers.declared.answer.Answer.TheVariants as answer
use Rattle.volume_state.specs.Laws.{CanGoBackToo}
use Rattle.volume_state.specs.Saved.{image_blocks}
use Rattle.volume_state.specs.GoingBack.{CanGoBack}
use Rattle.reiser_volume.specs.Laws.{IsSameVolume}
use Rattle.rollback_core.specs.RollbackAnswers.{RefusesRollback}
use Rattle.rollback_core.specs.Prepared.{IsWayBack}
use Rattle.super_turn.specs.Marked.{has_mark}
use Rattle.super_turn.specs.PutBack.{put_back}
use Rattle.rollback_core.specs.Recovered.{IsLeftByRecovery, IsRecovered}
use Rattle.rollback_core.specs.RolledBack.{IsBack, IsHalfBack, IsRolledBack, StillStands}
use Rattle.rollback_core.specs.Writing.{AreWritesApart, AreWiped, IsHalfway, IsTurned, IsUnturned}
use Rattle.rollback_core.specs.declared.way.WayBack.{WayBack}

-- What each of the three states means. The Btrfs volume that a crash leaves is the same, with its rows and its saved image, and can be rolled
-- back. The old volume that a crash leaves, or that is rolled back to, is that in the saved image: it is accepted, with the same rows.
pub record RollbackKeeps : Type 0 where
  pub standing : (disk other : Image) → CanGoBack disk → StillStands disk other → CanGoBackToo disk other
  pub half : (disk other : Image) → CanGoBack disk → IsHalfBack disk other → IsSameVolume (image_blocks disk) (put_back other)
  pub back : (disk other : Image) → CanGoBack disk → IsBack disk other → IsSameVolume (image_blocks disk) other

-- After a crash that left the Btrfs volume another rollback ends as the first one would have: it makes the same blocks of the same image.
abbrev pub RollbackGoesOn : Type 0
RollbackGoesOn = (disk left other : Image) → CanGoBack disk → StillStands disk left → IsRolledBack left other → IsRolledBack disk other

-- A volume that can be rolled back is not refused: all that is answered is a failed call, or too little memory. One that is refused so can
-- not be rolled back.
abbrev pub RefusedCanNotGoBack : Type 0
RefusedCanNotGoBack = (disk : Image) (e : Answer) → RefusesRollback disk e → e ≢ answer.Fault → e ≢ answer.Memory → ¬ CanGoBack disk

-- What is prepared and written makes of a disk what is said of a rollback: before block 16 is written the Btrfs volume stands, from then on
-- the old one.
pub record WritingRollsBack : Type 0 where
  pub standing : (disk : Image) (way : WayBack) (other : Image) → IsWayBack disk way → AreWritesApart way → IsUnturned way disk other → StillStands disk other
  pub half : (disk : Image) (way : WayBack) (other : Image) → IsWayBack disk way → AreWritesApart way → IsHalfway way disk other → IsHalfBack disk other
  pub back : (disk : Image) (way : WayBack) (other : Image) → IsWayBack disk way → IsTurned way disk other → IsBack disk other
  pub done : (disk : Image) (way : WayBack) (other : Image) → IsWayBack disk way → IsTurned way disk other → AreWiped way other → IsRolledBack disk other

-- the superblock in the saved image has no mark, as none has that is not being turned
abbrev pub IsUnmarked : Image → Type 0
IsUnmarked disk = has_mark (block_at (image_blocks disk) SUPER_BLOCK) ≡ false

-- Whatever a crash of a rollback left of the old volume, crashes of any number of recoveries leave the old volume too, once block 16 is put back;
-- and a recovery that ends makes it that volume: each block that it uses is that of the saved image, block 16 in all its bytes.
pub record RecoveryRollsBack : Type 0 where
  pub begins : (disk other : Image) → CanGoBack disk → IsUnmarked disk → IsHalfBack disk other ⊎ IsBack disk other → IsBack disk (put_back other)
  pub left : (disk other left : Image) → CanGoBack disk → IsUnmarked disk → IsBack disk (put_back other) → IsLeftByRecovery other left → IsBack disk (put_back left)
  pub recovered : (disk other new : Image) → CanGoBack disk → IsUnmarked disk → IsBack disk (put_back other) → IsRecovered (put_back other) new → IsBack disk new

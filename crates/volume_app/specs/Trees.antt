-- What commands do to the tree of files of a disk.
use Rattle.std.specs.Prelude.{◌≡◌, ◌⊎◌, ◌<◌, ℕ, true, List, length}
use Rattle.reiser_volume.specs.outside.History.{Image, block_at}
use Rattle.reiser_volume.specs.fs_rows.Rows.{WholeRow}
use Rattle.convert_core_laws.specs.going_back.Back.{GoesBack}
use Rattle.convert_core_laws.specs.placement.InPlace.{IsInPlace}
use Rattle.convert_core_laws.specs.btr_check_rules.Sound.{IsSound}
use Rattle.volume_state.specs.Laws.{CanGoBackToo}
use Rattle.reiser_volume.specs.reiser_volume_contents.Laws.{SameUsed}
use Rattle.convert_core_laws.specs.opening.Opens.{OpensAsBefore, StandsAsBefore}
use Rattle.reiser_volume.specs.Laws.{IsSameVolume}
use Rattle.reiser_volume.specs.Volume.{IsAccepted}
use Rattle.rollback_core.specs.Opens.{OpensAs}
use Rattle.rollback_core.specs.Recovered.{IsRecoverable}
use Rattle.convert_core.specs.convert_trees_laws.Rows.{HasBytes}
use Rattle.volume_state.specs.Saved.{image_blocks}
use Rattle.volume_state.specs.GoingBack.{CanGoBack, old_used}
use Rattle.super_turn.specs.PutBack.{IsPuttingBack, is_half_turned, put_back}
use Rattle.unit_plan.specs.convert_options.declared.options.UuidChoice.{UuidChoice}
use Rattle.unit_plan.specs.convert_options.declared.options.UuidChoice.TheVariants.{New, Copy, Given}
use Rattle.reiser_volume.specs.vol_block.declared.format.Format.{Format}

-- Each block has 4096 bytes. A disk that tells its blocks tells lists of lists of numbers; those of every device are such.
pub record AreBlocks (disk : Image) : Type 0 where
  pub lengths : (b : ℕ) → b < length disk → length (block_at disk b) ≡ 4096
  pub bytes : HasBytes disk

-- an identifier that is given has 16 bytes
abbrev pub HasId : UuidChoice → Type 0
HasId New = Unit {0}
HasId Copy = Unit {0}
HasId (Given id) = length id ≡ 16

-- ---- a tree that stays

-- A volume that opens with some rows opens as the same format with the same rows, and an accepted ReiserFS volume is the same. One that can
-- be rolled back is the same Btrfs volume, each block in use as it was, with the same saved image, and can be rolled back. What `recover`
-- opens it opens again.
pub record KeepsTree (disk other : Image) : Type 0 where
  pub opens : (f : Format) (rows : List WholeRow) → OpensAs f disk rows → OpensAs f other rows
  pub volume : IsAccepted disk → IsSameVolume disk other
  pub goes_back : CanGoBack disk → CanGoBackToo disk other
  pub recovers : IsRecoverable disk → IsRecoverable other

-- ---- convert

-- The Btrfs volume has exactly the tree of the ReiserFS volume, it is sound, the data of files is where it was, and the old volume can be had
-- back from it.
pub record IsConvertedTree (disk other : Image) : Type 0 where
  pub opens : OpensAsBefore disk other
  pub sound : IsSound other
  pub in_place : IsInPlace disk other
  pub back : GoesBack disk other

-- The disk is as it was, with its tree, but that a block 16 which is half turned may be put back, in part or as a whole.
pub record IsPuttingBackTree (disk other : Image) : Type 0 where
  pub putting : IsPuttingBack disk other
  pub tree : KeepsTree disk other

-- That; or the ReiserFS volume stands with its tree, also while block 16 is half turned, or the Btrfs volume does with the same.
abbrev pub LeavesConvertedTree : Image → Image → Type 0
LeavesConvertedTree disk other = IsPuttingBackTree disk other ⊎ (StandsAsBefore (put_back disk) other ⊎ IsConvertedTree (put_back disk) other)

-- ---- rollback

-- Each block that the old bitmap marks used is that of the saved image, so the old volume stands with its tree.
pub record IsRestoredTree (disk other : Image) : Type 0 where
  pub restored : SameUsed (old_used disk) (image_blocks disk) other
  pub volume : IsSameVolume (image_blocks disk) other

-- The same of a disk on which block 16 is half turned, once it is put back. The old volume stands with its tree before that, too.
pub record IsHalfRestoredTree (disk other : Image) : Type 0 where
  pub half : is_half_turned other ≡ true
  pub restored : SameUsed (old_used disk) (image_blocks disk) (put_back other)
  pub volume : IsSameVolume (image_blocks disk) other

-- The disk is as it was; or, of one that can be rolled back, the Btrfs volume stands, each block that it has in use as it was: with its
-- tree, if that can be read, and the same saved image, so that it can be rolled back again; or the old volume does with its tree.
abbrev pub LeavesRestoredTree : Image → Image → Type 0
LeavesRestoredTree disk other = (other ≡ disk) ⊎ (CanGoBack disk × (CanGoBackToo disk other ⊎ (IsHalfRestoredTree disk other ⊎ IsRestoredTree disk other)))

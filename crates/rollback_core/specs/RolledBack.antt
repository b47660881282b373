-- The disk before, while and after a converted volume is rolled back.
use Rattle.std.specs.Prelude.{◌≡◌, ◌⊎◌, ℕ, ◌+◌, nat_lt, Bool, true, false, ◌&&◌, not, List, codes, filter, length}
use Rattle.btr_reader.specs.btrfs_format.declared.block.TheConstants.{SUPER_BLOCK, SUPER_MAGIC_OFFSET}
use Rattle.reiser_bitmap.specs.outside.History.{Image, block_at}
use Rattle.reiser_bitmap.specs.vol_block.Format.{has_bytes_at}
use Rattle.reiser_bitmap.specs.vol_block.Volume.{is_reserved, zeros}
use Rattle.convert_steps.specs.Switch.{IsMirror}
use Rattle.volume_state.specs.Saved.{image_blocks}
use Rattle.reiser_volume.specs.reiser_volume_contents.Laws.{SameUsed}
use Rattle.reiser_bitmap.specs.Bits.{has, used_blocks}
use Rattle.rollback_core.specs.declared.way.RollbackSummary.{RollbackSummary}
use Rattle.volume_state.specs.GoingBack.{CanGoBack, old_used}
use Rattle.super_turn.specs.PutBack.{is_half_turned, put_back}

-- ---- which blocks change

-- A block that the Btrfs volume leaves free and the old one uses: it is reserved, and marked in the bitmap of the saved image.
pub record IsRestored (disk : Image) (b : ℕ) : Type 0 where
  pub used : has (old_used disk) b ≡ true
  pub reserved : is_reserved b (length (old_used disk)) ≡ true

-- A block of a copy of the superblock that the old volume has without use, and which holds the magic of a Btrfs superblock.
abbrev pub is_wiped : Image → ℕ → Bool
is_wiped disk b = nat_lt (b + 1) (length (old_used disk)) && (not (has (old_used disk) b) && has_bytes_at (block_at disk b) SUPER_MAGIC_OFFSET (codes "_BHRfS_M"))

-- ---- the Btrfs volume

-- It still stands: nothing differs but restored blocks, none of which it uses, and its superblock is as it was.
pub record StillStands (disk other : Image) : Type 0 where
  pub size : length other ≡ length disk
  pub superblock : block_at other SUPER_BLOCK ≡ block_at disk SUPER_BLOCK
  pub others : (b : ℕ) → ¬ IsRestored disk b → block_at other b ≡ block_at disk b

-- ---- the old volume

-- It stands again: each block that it uses is that of the saved image. No other block differs, but that one without use, with a copy of the
-- Btrfs superblock, may be wiped in part or as a whole.
pub record IsBack (disk other : Image) : Type 0 where
  pub size : length other ≡ length disk
  pub used : SameUsed (old_used disk) (image_blocks disk) other
  pub others : (b : ℕ) → has (old_used disk) b ≡ false → (block_at other b ≡ block_at disk b) ⊎ (IsMirror b × (is_wiped disk b ≡ true))

-- It stands again, but that block 16 is half turned: it has the first sector of the old one with a mark, and is put back.
pub record IsHalfBack (disk other : Image) : Type 0 where
  pub half : is_half_turned other ≡ true
  pub back : IsBack disk (put_back other)

-- And no copy is left in a block without use.
pub record IsRolledBack (disk other : Image) : Type 0 where
  pub can : CanGoBack disk
  pub back : IsBack disk other
  pub wiped : (b : ℕ) → IsMirror b → is_wiped disk b ≡ true → block_at other b ≡ zeros

-- ---- what a crash may leave

-- the disk as it was; or, of a volume that can be rolled back, the Btrfs volume or the old one, of which block 16 may be half turned
abbrev pub IsLeftByRollback : Image → Image → Type 0
IsLeftByRollback disk other = (other ≡ disk) ⊎ (CanGoBack disk × (StillStands disk other ⊎ (IsHalfBack disk other ⊎ IsBack disk other)))

-- ---- what is told

-- the reserved blocks that the old volume uses, ascending
abbrev pub restored_blocks : Image → List ℕ
restored_blocks disk = filter (λ b. is_reserved b (length (old_used disk))) (used_blocks (old_used disk))

-- how many blocks the old volume uses, and how many of them are reserved
abbrev pub rollback_summary : Image → RollbackSummary
rollback_summary disk = record { blocks = length (used_blocks (old_used disk)); restored = length (restored_blocks disk) }

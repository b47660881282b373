-- What decides the saved image of a Btrfs volume, the blocks in use, and whether the volume before can be had back.
use Rattle.std.specs.Prelude.{◌≡◌, ◌↔◌, ℕ, ◌/◌, Bool, false, length}
use Rattle.reiser_bitmap.specs.outside.History.{Image}
use Rattle.btr_reader.specs.Parts.{IsReadable, SavedImage, own_super}
use Rattle.volume_state.specs.Laws.{CanGoBackToo, IsSameInUse}
use Rattle.btr_reader.specs.Apart.{IsSpareFree, IsSameOutside, IsVolumeApart, differs}
use Rattle.btr_reader.specs.MetadataLaws.{IsSameBtrfs}
use Rattle.rollback_core.specs.Recovered.{IsLeftByRecover}
use Rattle.volume_state.specs.Saved.{image_blocks}
use Rattle.volume_state.specs.GoingBack.{CanGoBack}
use Rattle.volume_state.specs.Using.{IsInUse, IsReservedFree}

-- The other disk holds the same Btrfs volume with the same saved image and the same blocks in use, and the volume before can be had back
-- from both or from neither.
pub record IsSameSaved (disk other : Image) : Type 0 where
  pub same : IsSameBtrfs disk other
  pub image : image_blocks other ≡ image_blocks disk
  pub in_use : (b : ℕ) → IsInUse disk b ↔ IsInUse other b
  pub can : CanGoBack disk ↔ CanGoBack other

-- ---- the volume before

-- Where no part of a volume lies in some blocks, no such block decides it: it is the same on a disk that differs in these alone.
abbrev pub PartsDecideSaved : Type 0
PartsDecideSaved = (test : ℕ → Bool) (disk other : Image) → IsVolumeApart test disk → IsSameOutside test disk other → IsSameSaved disk other

-- In other words: it is the same on each disk that is as long, and on which no part of the volume lies in a block that differs.
abbrev pub SamePartsGoBack : Type 0
SamePartsGoBack = (disk other : Image) → length other ≡ length disk → IsVolumeApart (differs disk other) disk → IsSameSaved disk other

-- So the volume before can be had back from each disk that has the same in block 16 and in each block in use, if it can from one of them.
abbrev pub UnusedBlocksDecideNothing : Type 0
UnusedBlocksDecideNothing = (disk other : Image) → CanGoBack disk → IsSameInUse disk other → CanGoBackToo disk other

-- ---- blocks in use

-- Block 16 and the blocks in use decide which blocks are in use, of any disk: nothing has to be readable.
abbrev pub UsedBlocksDecideUse : Type 0
UsedBlocksDecideUse = (disk other : Image) → IsSameInUse disk other → (b : ℕ) → IsInUse disk b ↔ IsInUse other b

-- Where the way to the saved image is readable, each part of a volume lies in block 16 or in a block in use. So where no reserved block of
-- the volume is in use, none of its parts lies there.
pub record UnusedBlocksLieApart : Type 0 where
  pub apart : (test : ℕ → Bool) (disk : Image) → IsReadable disk SavedImage → test 16 ≡ false → ((b : ℕ) → IsInUse disk b → test b ≡ false) → IsVolumeApart test disk
  pub reserved : (disk : Image) → IsReadable disk SavedImage → IsReservedFree disk ((own_super disk).total_bytes / 4096) → IsSpareFree disk

-- Where none of the reserved blocks of a disk is in use, for a volume of any number of blocks, what a recovery makes of the disk, or a crash
-- of one leaves, has the same blocks in use, and so none that is reserved.
pub record RecoveryKeepsUse : Type 0 where
  pub used : (disk other : Image) (blocks : ℕ) → IsReservedFree disk blocks → IsLeftByRecover disk other → (b : ℕ) → IsInUse disk b ↔ IsInUse other b
  pub reserved : (disk other : Image) (blocks : ℕ) → IsReservedFree disk blocks → IsLeftByRecover disk other → IsReservedFree other blocks

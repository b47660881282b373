-- What may differ of a volume from which the volume before can be had back.
use Rattle.std.specs.Prelude.{◌≡◌, ℕ, ◌==◌, Bool, ◌&&◌, not, length}
use Rattle.btr_node.specs.btrfs_format.declared.block.TheConstants.{SUPER_BLOCK}
use Rattle.reiser_bitmap.specs.outside.History.{Image, block_at}
use Rattle.reiser_bitmap.specs.vol_block.Volume.{is_reserved}
use Rattle.btr_reader.specs.Apart.{IsSameOutside}
use Rattle.btr_reader.specs.MetadataLaws.{IsSameBtrfs}
use Rattle.reiser_volume.specs.Volume.{superblock}
use Rattle.volume_state.specs.Saved.{image_blocks}
use Rattle.volume_state.specs.GoingBack.{CanGoBack}
use Rattle.volume_state.specs.Using.{IsInUse}

-- the block is reserved on the old volume, and not that of the superblock
abbrev pub is_spare : Image → ℕ → Bool
is_spare disk b = is_reserved b (superblock (image_blocks disk)).blocks && not (b == 16)

-- The two disks are as long as each other, and have the same in block 16, which is that of the superblock, and in each block in use.
pub record IsSameInUse (disk other : Image) : Type 0 where
  pub size : length other ≡ length disk
  pub superblock : block_at other SUPER_BLOCK ≡ block_at disk SUPER_BLOCK
  pub used : (b : ℕ) → IsInUse disk b → block_at other b ≡ block_at disk b

-- Each block that the Btrfs volume of the disk has in use holds the same on the other disk. So that has the same volume, with the same rows,
-- if it has any, and with the same saved image, and the volume before can be had back from it too.
pub record CanGoBackToo (disk other : Image) : Type 0 where
  pub blocks : IsSameInUse disk other
  pub same : IsSameBtrfs disk other
  pub image : image_blocks other ≡ image_blocks disk
  pub can : CanGoBack other

-- What differs in such blocks alone does.
abbrev pub SpareBlocksDecideNothing : Type 0
SpareBlocksDecideNothing = (disk other : Image) → CanGoBack disk → IsSameOutside (is_spare disk) disk other → CanGoBackToo disk other

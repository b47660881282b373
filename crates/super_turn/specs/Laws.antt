-- Laws of superblocks that are turned.
use Rattle.std.specs.Prelude.{◌≡◌, ◌≢◌, ℕ, ◌^◌, ◌<◌, true, false, List, codes, length, take, slice_set}
use Rattle.outside.specs.btrfs_format.declared.block.TheConstants.{SUPER_BLOCK, SUPER_MAGIC_OFFSET}
use Rattle.outside.specs.Format.{format_in}
use Rattle.outside.specs.History.{Image, block_at}
use Rattle.outside.specs.vol_block.Format.{has_bytes_at}
use Rattle.super_turn.specs.Marked.{IsHalf}
use Rattle.super_turn.specs.PutBack.{IsPuttingBack, is_half_turned, put_back}

-- The superblock of a ReiserFS volume that lies in another block too, and is half turned in block 16.
pub record HasHalf (old : List ℕ) (place : ℕ) (image : Image) : Type 0 where
  pub whole : length old ≡ 4096
  pub other_magic : has_bytes_at old SUPER_MAGIC_OFFSET (codes "_BHRfS_M") ≡ false
  pub inside : place < length image
  pub elsewhere : place ≢ 16
  pub small : place < 2 ^ 64
  pub copy : block_at image place ≡ old
  pub half : IsHalf old place (block_at image SUPER_BLOCK)

-- It is put back, whatever its other sectors hold.
abbrev pub HalfTurnedIsPutBack : Type 0
HalfTurnedIsPutBack = (old : List ℕ) (place : ℕ) (image : Image) → HasHalf old place image → (is_half_turned image ≡ true) × (put_back image ≡ slice_set image SUPER_BLOCK old)

-- Putting block 16 back changes nothing else, and of this block neither the format nor the first 128 bytes, where all lies that is read of a
-- superblock of ReiserFS. A crash of it leaves a disk that is put back as the first one is.
pub record PutBackKeeps : Type 0 where
  pub size : (image : Image) → length (put_back image) ≡ length image
  pub others : (image : Image) (b : ℕ) → b ≢ 16 → block_at (put_back image) b ≡ block_at image b
  pub front : (image : Image) → take 128 (block_at (put_back image) SUPER_BLOCK) ≡ take 128 (block_at image SUPER_BLOCK)
  pub format : (image : Image) → format_in (put_back image) ≡ format_in image
  pub again : (image other : Image) → IsPuttingBack image other → is_half_turned (put_back image) ≡ false → put_back other ≡ put_back image

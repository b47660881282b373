-- A disk whose block 16 is put back, where turning it was cut off.
use Rattle.std.specs.Prelude.{◌≡◌, ◌≢◌, ◌⊎◌, ℕ, Bool, true, false, ◌&&◌, List, length, take, slice_set, if◌then◌else◌}
use Rattle.outside.specs.btrfs_format.declared.block.TheConstants.{SUPER_BLOCK}
use Rattle.outside.specs.History.{History, Image, IsSettled, block_at, reads}
use Rattle.super_turn.specs.Marked.{is_half, marked_place, names_copy}

-- the block that the mark of block 16 names
abbrev pub copy_place : Image → ℕ
copy_place image = marked_place (block_at image SUPER_BLOCK)

-- turning block 16 was cut off: the block that its mark names is the same in the first sector, but for the mark
abbrev pub is_half_turned : Image → Bool
is_half_turned image = names_copy (block_at image SUPER_BLOCK) (length image) && is_half (block_at image (copy_place image)) (block_at image SUPER_BLOCK)

-- what block 16 is to be: the block that its mark names
abbrev pub super_before : Image → List ℕ
super_before image = if is_half_turned image then block_at image (copy_place image) else block_at image SUPER_BLOCK

-- The disk with that block 16. One that is not half turned stays as it is.
abbrev pub put_back : Image → Image
put_back image = if is_half_turned image then slice_set image SUPER_BLOCK (block_at image (copy_place image)) else image

-- While block 16 is put back nothing else differs; it is put back, or its first sector is as it was.
pub record IsPuttingBack (image other : Image) : Type 0 where
  pub size : length other ≡ length image
  pub others : (b : ℕ) → b ≢ 16 → block_at other b ≡ block_at image b
  pub superblock : (block_at other SUPER_BLOCK ≡ super_before image) ⊎ ((is_half_turned image ≡ true) × (take 512 (block_at other SUPER_BLOCK) ≡ take 512 (block_at image SUPER_BLOCK)))

-- Nothing was changed, but that block 16 is put back.
pub record IsPutBackAlone (old new : History) : Type 0 where
  pub put : reads new ≡ put_back (reads old)
  pub same : is_half_turned (reads old) ≡ false → new ≡ old
  pub settled : IsSettled old → IsSettled new

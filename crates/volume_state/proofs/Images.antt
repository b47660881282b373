-- The blocks of an image, each by itself.
use Rattle.volume_state.proofs.Imports.{◌≡◌, ℕ, ◌<◌, ◌≤◌, min, length, [], Option, sym, ◌∙◌, ap, arith, ext_get_or, Image, block_at, block_or_hole, blocks_by, file_blocks, image_blocks, saved_file, saved_place}
use Rattle.std.proofs.lemmas.List.FromFn.{get_or-map-range_with_len, length-map-range_with_len}

module _ (place : ℕ → Option ℕ) (n : ℕ) (disk : Image) where
  pub length_by : length (blocks_by place n disk) ≡ min n (length disk)
  length_by = length-map-range_with_len (λ b. block_or_hole disk (place b)) 0 (min n (length disk))

  -- each is that of its place
  pub block_by : (b : ℕ) → b < min n (length disk) → block_at (blocks_by place n disk) b ≡ block_or_hole disk (place b)
  block_by b below = get_or-map-range_with_len (λ k. block_or_hole disk (place k)) 0 (min n (length disk)) b b [] below (omega arith)

-- equal places give equal blocks
pub blocks_alike : (place other : ℕ → Option ℕ) (n : ℕ) (disk : Image) → ((b : ℕ) → place b ≡ other b) → blocks_by place n disk ≡ blocks_by other n disk
blocks_alike place other n disk same =
    ext_get_or [] (blocks_by place n disk) (blocks_by other n disk) (length_by place n disk ∙ sym (length_by other n disk)) each
  where
    each : (b : ℕ) → b < length (blocks_by place n disk) → block_at (blocks_by place n disk) b ≡ block_at (blocks_by other n disk) b
    each b below =
        let inside : b < min n (length disk) = omega (arith, below, length_by place n disk) in
        block_by place n disk b inside ∙ (ap (λ (p : Option ℕ). block_or_hole disk p) (same b) ∙ sym (block_by other n disk b inside))

-- a block of the saved image
pub image_block : (disk : Image) (b : ℕ) → b < length (image_blocks disk) → block_at (image_blocks disk) b ≡ block_or_hole disk (saved_place disk b)
unfolding image_blocks
image_block disk b below =
    block_by (saved_place disk) (file_blocks (saved_file disk)) disk b (omega (arith, below, length_by (saved_place disk) (file_blocks (saved_file disk)) disk))

-- it is no longer than the disk
pub image_short : (disk : Image) → length (image_blocks disk) ≤ length disk
unfolding image_blocks
image_short disk = omega (arith, length_by (saved_place disk) (file_blocks (saved_file disk)) disk)

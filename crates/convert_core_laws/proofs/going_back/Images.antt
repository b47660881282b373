-- The blocks of the saved image, each by itself.
use Rattle.convert_core_laws.proofs.Imports.{◌≡◌, ℕ, ◌<◌, min, length, [], Option, Some, ap, ◌∙◌, arith, get_or-map-range_with_len, length-map-range_with_len, Image, block_at, ImageFile, image_place, own_map, block_or_hole, file_blocks, image_blocks, place_by_file, saved_file, saved_place}

module _ (disk : Image) (f : ImageFile) (there : saved_file disk ≡ Some f) where
  -- where the file is found, these are its places
  pub place_is : (b : ℕ) → saved_place disk b ≡ image_place (own_map disk) f b
  place_is b = ap (λ (o : Option ImageFile). place_by_file (own_map disk) o b) there

  pub length_is : length (image_blocks disk) ≡ min f.blocks (length disk)
  unfolding image_blocks
  length_is =
      length-map-range_with_len (λ b. block_or_hole disk (saved_place disk b)) 0 (min (file_blocks (saved_file disk)) (length disk))
      ∙ ap (λ (o : Option ImageFile). min (file_blocks o) (length disk)) there

  -- a block of the image is that of its place on the disk
  pub block_is : (b p : ℕ) → b < length (image_blocks disk) → image_place (own_map disk) f b ≡ Some p → block_at (image_blocks disk) b ≡ block_at disk p
  unfolding image_blocks
  block_is b p below placed =
      let long = length-map-range_with_len (λ k. block_or_hole disk (saved_place disk k)) 0 (min (file_blocks (saved_file disk)) (length disk)) in
      get_or-map-range_with_len (λ k. block_or_hole disk (saved_place disk k)) 0 (min (file_blocks (saved_file disk)) (length disk)) b b [] (omega (arith, below, long)) (omega arith)
      ∙ ap (λ (o : Option ℕ). block_or_hole disk o) (place_is b ∙ placed)

-- A block of the saved image, as its source reads it.
use Rattle.volume_state.proofs.Imports.{◌≡◌, ℕ, ◌<◌, min, length, List, Option, Some, Result, Ok, Err, OnOk, sym, ◌∙◌, ap, Image, block_at, map_place, ImageMap, block_or_hole, blocks_by_map}
use Rattle.volume_state.proofs.Images.{block_by}

module _ (m : ImageMap) (disk : Image) (n : ℕ) (inside : n < min m.blocks (length disk)) where
  pub block_there : (o : Option ℕ) → map_place m n ≡ o → block_or_hole disk o ≡ block_at (blocks_by_map m disk) n
  block_there o is = sym (block_by (map_place m) m.blocks disk n inside ∙ ap (λ (p : Option ℕ). block_or_hole disk p) is)

  pub read_there : {T E : Type 0} (result : Result T E) (place : ℕ) (bytes : List ℕ) → map_place m n ≡ Some place → OnOk result (bytes ≡ block_at disk place) → OnOk result (bytes ≡ block_at (blocks_by_map m disk) n)
  read_there (Ok x) place bytes is read = read ∙ block_there (Some place) is
  read_there (Err e) place bytes is read = tt

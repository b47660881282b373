-- Whether the saved image lies where the old volume did.
use Rattle.std.specs.Prelude.{◌≡◌, ◌≢◌, ℕ, List, Bool, true, false, length, Option, Some, None}
use Rattle.reiser_bitmap.specs.Bits.{has}
use Rattle.reiser_bitmap.specs.vol_block.Volume.{is_reserved}

-- A block that the old volume uses, and which is not reserved.
pub record IsOld (used : List Bool) (b : ℕ) : Type 0 where
  pub marked : has used b ≡ true
  pub outside : is_reserved b (length used) ≡ false

-- each of them is at its place
abbrev pub AreInPlace : (ℕ → Option ℕ) → List Bool → Type 0
AreInPlace place used = (b : ℕ) → IsOld used b → place b ≡ Some b

-- this one is elsewhere, or nowhere
pub record IsMoved (place : ℕ → Option ℕ) (used : List Bool) (b : ℕ) : Type 0 where
  pub old : IsOld used b
  pub elsewhere : place b ≢ Some b

-- none was moved, or this one
abbrev pub TellsMoved : (ℕ → Option ℕ) → List Bool → Option ℕ → Type 0
TellsMoved place used None = AreInPlace place used
TellsMoved place used (Some b) = IsMoved place used b

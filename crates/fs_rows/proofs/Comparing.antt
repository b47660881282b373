-- Whether two lists are the same, element by element.
use Rattle.fs_rows.proofs.Imports.{◌≡◌, ℕ, ◌+◌, Bool, true, false, ◌&&◌, List, ◌∷◌, slice_get, Some, drop, sym, ap, ◌∙◌, pointwise, drop_more, slice_get_within, get_or_from_slice_get}

module _ {X : Type 0} (E : X → X → Bool) where
  -- the next two elements
  step : (xs ys : List X) (i : ℕ) (x y : X) → slice_get xs i ≡ Some x → slice_get ys i ≡ Some y
      → pointwise E (drop i xs) (drop i ys) ≡ (E x y && pointwise E (drop (i + 1) xs) (drop (i + 1) ys))
  step xs ys i x y at_x at_y =
      ap (λ (t : List X). pointwise E t (drop i ys)) (drop_more xs i x (slice_get_within xs i x at_x) ∙ ap (λ (z : X). z ∷ drop (i + 1) xs) (get_or_from_slice_get xs i x x at_x))
      ∙ ap (λ (t : List X). pointwise E (x ∷ drop (i + 1) xs) t) (drop_more ys i y (slice_get_within ys i y at_y) ∙ ap (λ (z : X). z ∷ drop (i + 1) ys) (get_or_from_slice_get ys i y y at_y))

  -- they are the same
  pub same_next : (xs ys : List X) (i : ℕ) (x y : X) → slice_get xs i ≡ Some x → slice_get ys i ≡ Some y → E x y ≡ true
      → pointwise E (drop i xs) (drop i ys) ≡ pointwise E xs ys → pointwise E (drop (i + 1) xs) (drop (i + 1) ys) ≡ pointwise E xs ys
  same_next xs ys i x y at_x at_y same so_far =
      sym (ap (λ (b : Bool). b && pointwise E (drop (i + 1) xs) (drop (i + 1) ys)) same) ∙ (sym (step xs ys i x y at_x at_y) ∙ so_far)

  -- they differ
  pub differ : (xs ys : List X) (i : ℕ) (x y : X) → slice_get xs i ≡ Some x → slice_get ys i ≡ Some y → E x y ≡ false
      → pointwise E (drop i xs) (drop i ys) ≡ pointwise E xs ys → false ≡ pointwise E xs ys
  differ xs ys i x y at_x at_y other so_far =
      sym (ap (λ (b : Bool). b && pointwise E (drop (i + 1) xs) (drop (i + 1) ys)) other) ∙ (sym (step xs ys i x y at_x at_y) ∙ so_far)

-- Counting the elements of a list that have a property, one after the other.
use Rattle.convert_trees.proofs.Imports.{◌≡◌, ◌∙◌, ℕ, zero, suc, ◌+◌, ◌<◌, Bool, true, false, List, [], ◌∷◌, length, take, get_or, count_by, Option, Some, refl, sym, ap, arith, slice_get, unwrap_or, count_by_more_no, count_by_more_yes, unwrap_or-slice_get}

module _ {X : Type 0} (p : X → Bool) where
  there : (xs : List X) (i : ℕ) → i < length xs → (x : X) × (slice_get xs i ≡ Some x)
  there [] i h = absurd (omega (arith, h))
  there (x ∷ xs) zero h = (x, refl)
  there (x ∷ xs) (suc i) h = there xs i (omega (arith, h))

  module _ (xs : List X) (i index next : ℕ) (inside : i < length xs) where
    at : (b : Bool) → ((x : X) → slice_get xs i ≡ Some x → p x ≡ b) → (x : X) × (p (get_or xs i x) ≡ b)
    at b each =
        let found = there xs i inside in
        (found.0, ap p (sym (unwrap_or-slice_get xs i found.0) ∙ ap (λ (o : Option X). unwrap_or o found.0) found.1) ∙ each found.0 found.1)

    pub counted_yes : ((x : X) → slice_get xs i ≡ Some x → p x ≡ true) → next ≡ index + 1 → index ≡ 2 + count_by p (take i xs) → next ≡ 2 + count_by p (take (i + 1) xs)
    counted_yes each more so_far = let found = at true each in omega (arith, more, so_far, count_by_more_yes p xs i found.0 inside found.1)

    pub counted_no : ((x : X) → slice_get xs i ≡ Some x → p x ≡ false) → next ≡ index → index ≡ 2 + count_by p (take i xs) → next ≡ 2 + count_by p (take (i + 1) xs)
    counted_no each same so_far = let found = at false each in omega (arith, same, so_far, count_by_more_no p xs i found.0 inside found.1)

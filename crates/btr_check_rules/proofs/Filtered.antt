-- What passes a test of two lists with the same elements is the same too, in some order.
use Rattle.btr_check_rules.proofs.Imports.{ℕ, zero, suc, ◌<◌, Bool, true, false, cond, List, [], ◌∷◌, subst, length, get_or, filter, arith, set, swap, IsPermutation, IsPermutation-cons, IsPermutation-keeps, IsPermutation-middle, IsPermutation-refl, IsPermutation-trans}
use Rattle.std.proofs.lemmas.List.Edits.{swap_is}

module _ {X : Type 0} (p : X → Bool) where
  -- what passes, as a relation of two lists
  abbrev Same : List X → List X → Type 0
  Same xs ys = IsPermutation (filter p xs) (filter p ys)

  behind : (x : X) (xs ys : List X) → Same xs ys → Same (x ∷ xs) (x ∷ ys)
  behind x xs ys same = by (p x)
    where
      by : (b : Bool) → IsPermutation (cond b (x ∷ filter p xs) (filter p xs)) (cond b (x ∷ filter p ys) (filter p ys))
      by true = IsPermutation-cons x (filter p xs) (filter p ys) same
      by false = same

  turned : (x y : X) (xs : List X) → Same (x ∷ (y ∷ xs)) (y ∷ (x ∷ xs))
  turned x y xs = by (p x) (p y)
    where
      by : (b c : Bool) → IsPermutation (cond b (x ∷ cond c (y ∷ filter p xs) (filter p xs)) (cond c (y ∷ filter p xs) (filter p xs))) (cond c (y ∷ cond b (x ∷ filter p xs) (filter p xs)) (cond b (x ∷ filter p xs) (filter p xs)))
      by true true = IsPermutation-middle (x ∷ []) y (filter p xs)
      by true false = IsPermutation-refl (x ∷ filter p xs)
      by false true = IsPermutation-refl (y ∷ filter p xs)
      by false false = IsPermutation-refl (filter p xs)

  -- the head, and an element behind it
  exchanged : (x d : X) (xs : List X) (j : ℕ) → j < length xs → Same (x ∷ xs) (get_or xs j d ∷ set xs j x)
  exchanged x d [] j h = absurd (omega (arith, h))
  exchanged x d (y ∷ xs) zero h = turned x y xs
  exchanged x d (y ∷ xs) (suc j) h =
      IsPermutation-trans (filter p (x ∷ (y ∷ xs))) (filter p (y ∷ (x ∷ xs))) (filter p (get_or xs j d ∷ (y ∷ set xs j x))) (turned x y xs)
      (IsPermutation-trans (filter p (y ∷ (x ∷ xs))) (filter p (y ∷ (get_or xs j d ∷ set xs j x))) (filter p (get_or xs j d ∷ (y ∷ set xs j x)))
      (behind y (x ∷ xs) (get_or xs j d ∷ set xs j x) (exchanged x d xs j (omega (arith, h)))) (turned y (get_or xs j d) (set xs j x)))

  swapped : (d : X) (xs : List X) (i j : ℕ) → i < length xs → j < length xs → Same xs (set (set xs i (get_or xs j d)) j (get_or xs i d))
  swapped d [] i j h l = absurd (omega (arith, h))
  swapped d (x ∷ xs) zero zero h l = IsPermutation-refl (filter p (x ∷ xs))
  swapped d (x ∷ xs) zero (suc j) h l = exchanged x d xs j (omega (arith, l))
  swapped d (x ∷ xs) (suc i) zero h l = exchanged x d xs i (omega (arith, h))
  swapped d (x ∷ xs) (suc i) (suc j) h l = behind x xs (set (set xs i (get_or xs j d)) j (get_or xs i d)) (swapped d xs i j (omega (arith, h)) (omega (arith, l)))

  pub filter_permutation : (xs ys : List X) → IsPermutation xs ys → IsPermutation (filter p xs) (filter p ys)
  filter_permutation xs =
      IsPermutation-keeps xs (λ (l : List X). Same xs l) (IsPermutation-refl (filter p xs))
      (λ l i j h k same.
      let d : X = get_first l (omega (arith, h)) in
      IsPermutation-trans (filter p xs) (filter p l) (filter p (swap l i j)) same (subst (λ (m : List X). Same l m) (swap_is l i j d h k) (swapped d l i j h k)))
    where
      get_first : (l : List X) → 0 < length l → X
      get_first [] some = absurd (omega (arith, some))
      get_first (x ∷ l) some = x

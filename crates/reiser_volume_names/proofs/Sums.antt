-- Sums over the links that pass a test.
use Rattle.reiser_volume_names.proofs.Imports.{◌≡◌, ℕ, ◌+◌, ◌≤◌, Bool, true, false, List, [], ◌∷◌, ◌++◌, filter, sum_by, ap, ◌∙◌, if◌then◌else◌, arith, filter-append, sum_by-append, sum_by_push}

module _ {X : Type 0} (t : X → Bool) (w : X → ℕ) where
  -- one more element
  pub weight_push : (xs : List X) (x : X) → sum_by w (filter t (xs ++ x ∷ [])) ≡ sum_by w (filter t xs) + (if t x then w x else 0)
  weight_push xs x =
      ap (λ (l : List X). sum_by w l) (filter-append t xs (x ∷ [])) ∙ by (t x)
    where
      by : (b : Bool) → sum_by w (filter t xs ++ (if b then x ∷ [] else [])) ≡ sum_by w (filter t xs) + (if b then w x else 0)
      by true = sum_by_push w (filter t xs) x
      by false = sum_by-append w (filter t xs) []

  -- a first part weighs no more than the whole
  pub weight_of_part : (xs ys : List X) → sum_by w (filter t xs) ≤ sum_by w (filter t (xs ++ ys))
  weight_of_part xs ys = rw (filter-append t xs ys) (rw (sum_by-append w (filter t xs) (filter t ys)) (omega arith))

-- Steps of a stream.
use Rattle.file_items.proofs.Imports.{◌≡◌, ◌<◌, ◌≤◌, ℕ, zero, suc, ◌+◌, ◌-◌, List, [], ◌∷◌, length, drop, Some, refl, sym, ap, ◌∙◌, arith, slice_get, last_of}

-- the first of what is left of a list
pub record IsNext {A : Type 0} (xs : List A) (n : ℕ) : Type 0 where
  pub first : A
  pub stands : slice_get xs n ≡ Some first
  pub rest : drop n xs ≡ first ∷ drop (n + 1) xs

pub next_of : {A : Type 0} (xs : List A) (n : ℕ) → n < length xs → IsNext xs n
next_of [] n within = absurd (omega (arith, within))
next_of (x ∷ xs) zero within = record { first = x; stands = refl; rest = refl }
next_of {A} (x ∷ xs) (suc n) within =
    let later = next_of xs n (omega (arith, within)) in
    let one : suc n + 1 ≡ suc (n + 1) = omega arith in
    record { first = later.first; stands = later.stands; rest = later.rest ∙ ap (λ (k : ℕ). later.first ∷ drop k (x ∷ xs)) (sym one) }

pub none_left : {A : Type 0} (xs : List A) (n : ℕ) → length xs ≤ n → drop n xs ≡ []
none_left [] zero within = refl
none_left [] (suc n) within = refl
none_left (x ∷ xs) zero within = absurd (omega (arith, within))
none_left (x ∷ xs) (suc n) within = none_left xs n (omega (arith, within))

-- Pointers that lie inside.
use Rattle.reiser_volume_files.proofs.Imports.{◌≡◌, ◌≢◌, ℕ, zero, suc, ◌/◌, ◌<◌, true, ◌||◌, eqb, ltb, List, [], ◌∷◌, length, get_or, arith, inl, inr, list_all, and_parts, or_cases, eqb-true, ltb-true, Indirect, pointers, pointers_length, are_inside, is_inside}

each_inside : (n : ℕ) → (xs : List ℕ) (j : ℕ) → list_all (λ b. is_inside b n) xs ≡ true → j < length xs → get_or xs j 0 ≢ 0 → get_or xs j 0 < n
each_inside n [] j all h some = absurd (omega (arith, h))
each_inside n (x ∷ xs) zero all h some =
    elim (or_cases (eqb x 0) (ltb x n) (and_parts ((eqb x 0) || ltb x n) (list_all (λ b. is_inside b n) xs) all).0) as (λ _. x < n) [
      | inl is ↦ absurd (some (eqb-true x 0 is))
      | inr low ↦ ltb-true x n low
    ]
each_inside n (x ∷ xs) (suc j) all h some = each_inside n xs j (and_parts ((eqb x 0) || ltb x n) (list_all (λ b. is_inside b n) xs) all).1 (omega (arith, h)) some

pub pointer_inside : (body : List ℕ) (n j : ℕ) → are_inside Indirect body n ≡ true → j < length body / 4 → get_or (pointers body) j 0 ≢ 0 → get_or (pointers body) j 0 < n
pointer_inside body n j all h some = each_inside n (pointers body) j all (omega (arith, h, pointers_length body)) some

-- Addresses of full nodes, found by halves.
use Rattle.btr_check_references.proofs.Imports.{◌≡◌, ◌≤◌, ◌<◌, ℕ, ◌==◌, Bool, true, false, if◌then◌else◌, ◌&&◌, ◌||◌, List, [], ◌∷◌, ◌++◌, filter, length, map, get_or, Result, Ok, Err, is_ok, IsPermutation, ⊎_elim, refl, sym, ap, ◌∙◌, arith, append-nil, list_any, cases_lt, eq-eqb, nat_tests, get_or_default, map-append, filter-append, list_any-IsPermutation, Extent, is_full, AreFullNodes, full_starts}
use Rattle.std.specs.Result.{MatchResult}
use Rattle.std.proofs.lemmas.List.Folds.{list_any_at, list_any_none}

pub with_full : (extents : List Extent) (e : Extent) → is_full e ≡ true → full_starts (extents ++ e ∷ []) ≡ full_starts extents ++ e.start ∷ []
with_full extents e full =
    ap (map (λ (x : Extent). x.start)) (filter-append is_full extents (e ∷ []) ∙ ap (λ (b : Bool). filter is_full extents ++ (if b then e ∷ [] else [])) full) ∙ map-append (λ (x : Extent). x.start) (filter is_full extents) (e ∷ [])

pub without_full : (extents : List Extent) (e : Extent) → is_full e ≡ false → full_starts (extents ++ e ∷ []) ≡ full_starts extents
without_full extents e plain =
    ap (map (λ (x : Extent). x.start)) (filter-append is_full extents (e ∷ []) ∙ ap (λ (b : Bool). filter is_full extents ++ (if b then e ∷ [] else [])) plain ∙ append-nil (filter is_full extents))

starts_any : (a : ℕ) (extents : List Extent) → list_any (λ b. b == a) (full_starts extents) ≡ list_any (λ (e : Extent). (e.start == a) && is_full e) extents
starts_any a [] = refl
starts_any a (e ∷ extents) = by (is_full e) (e.start == a) refl (starts_any a extents)
  where
    by : (full same : Bool) → (e.start == a) ≡ same → list_any (λ b. b == a) (full_starts extents) ≡ list_any (λ (x : Extent). (x.start == a) && is_full x) extents
        → list_any (λ b. b == a) (map (λ (x : Extent). x.start) (if full then e ∷ filter is_full extents else filter is_full extents)) ≡ ((same && full) || list_any (λ (x : Extent). (x.start == a) && is_full x) extents)
    by true true is rest = ap (λ (t : Bool). t || list_any (λ b. b == a) (full_starts extents)) is
    by true false is rest = ap (λ (t : Bool). t || list_any (λ b. b == a) (full_starts extents)) is ∙ rest
    by false true is rest = rest
    by false false is rest = rest

pub sorted_full : (extents : List Extent) (addresses sorted : List ℕ) → addresses ≡ full_starts extents → IsPermutation addresses sorted → AreFullNodes extents sorted
sorted_full extents addresses sorted is moved a =
    sym (list_any-IsPermutation (λ b. b == a) addresses sorted moved) ∙ ap (list_any (λ b. b == a)) is ∙ starts_any a extents

-- what a search tells of ascending numbers
pub searched_any : (xs : List ℕ) (x : ℕ) (r : Result ℕ ℕ)
    → MatchResult r (λ i. (i < length xs) × (get_or xs i 0 ≡ x)) (λ i. (i ≤ length xs) × ((k : ℕ) → k < i → get_or xs k 0 < x) × ((k : ℕ) → i ≤ k → k < length xs → x < get_or xs k 0))
    → is_ok r ≡ list_any (λ b. b == x) xs
searched_any xs x (Ok i) at = sym (list_any_at (λ b. b == x) xs i 0 at.0 (eq-eqb (get_or xs i 0) x at.1))
searched_any xs x (Err i) at = sym (list_any_none (λ b. b == x) xs (λ k d within. none k d within))
  where
    none : (k : ℕ) (d : ℕ) → k < length xs → (get_or xs k d == x) ≡ false
    none k d within = ap (λ (n : ℕ). n == x) (get_or_default xs k d 0 within) ∙ ⊎_elim
        (λ (low : k < i). let below = at.1 k low in grind (arith, nat_tests, below))
        (λ (high : i ≤ k). let above = at.2 k high within in grind (arith, nat_tests, above))
        (cases_lt k i)

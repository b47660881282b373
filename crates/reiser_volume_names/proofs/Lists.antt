-- One more element of a list.
use Rattle.reiser_volume_names.proofs.Imports.{◌≡◌, ℕ, ◌+◌, ◌<◌, ◌≤◌, Bool, List, [], ◌∷◌, ◌++◌, length, get_or, take, drop, filter, Contains, if◌then◌else◌, ⊎_elim, sym, ap, subst, ◌∙◌, arith, cases_lt, get_or_default, take-append-drop, take_all, filter-append, filter_more}

module _ {X : Type 0} (P : X → Type 0) where
  -- what holds of the first elements, and of the next, holds of one more
  pub each_more : (xs : List X) (i : ℕ) (x : X) → ((k : ℕ) (d : X) → k < i → P (get_or xs k d)) → i < length xs → x ≡ get_or xs i x → P x → (k : ℕ) (d : X) → k < i + 1 → P (get_or xs k d)
  each_more xs i x each within at here k d below =
      ⊎_elim (λ before. each k d before) (λ not_before. let same : k ≡ i = omega arith in subst P (sym (ap (λ (j : ℕ). get_or xs j d) same ∙ (get_or_default xs i d x within ∙ sym at))) here) (cases_lt k i)

  -- and of each element, once they are all
  pub each_among : (xs : List X) (i : ℕ) → length xs ≤ i → ((k : ℕ) (d : X) → k < i → P (get_or xs k d)) → (x : X) → Contains xs x → P x
  each_among xs i all each x among = subst P among.2 (each among.0 x (omega (arith, among.1)))

module _ {X : Type 0} (p : X → Bool) (xs : List X) where
  -- those that pass among the first elements, with the next one
  pub kept_step : (i : ℕ) (x : X) → i < length xs → x ≡ get_or xs i x → filter p (take (i + 1) xs) ≡ filter p (take i xs) ++ (if p x then x ∷ [] else [])
  kept_step i x within at = filter_more p xs i x within ∙ ap (λ (y : X). filter p (take i xs) ++ (if p y then y ∷ [] else [])) (sym at)

  -- and the rest
  pub kept_split : (i : ℕ) → filter p xs ≡ filter p (take i xs) ++ filter p (drop i xs)
  kept_split i = ap (filter p) (sym (take-append-drop i xs)) ∙ filter-append p (take i xs) (drop i xs)

  -- all of them, at the end
  pub kept_all : (i : ℕ) → length xs ≤ i → filter p (take i xs) ≡ filter p xs
  kept_all i all = ap (filter p) (take_all i xs all)

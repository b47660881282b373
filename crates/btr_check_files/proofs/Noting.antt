-- Elements of a list that are noted one after the other.
use Rattle.btr_check_files.proofs.Imports.{◌≡◌, ℕ, ◌+◌, ◌<◌, ◌≤◌, Bool, true, false, List, [], ◌∷◌, ◌++◌, length, map, take, drop, filter, get_or, Some, sym, ap, ◌∙◌, subst, append_assoc, append-nil, map-append, take-append-drop, take_all, take_more, get_or_from_slice_get, slice_get, IsPermutation, Notes, NeverSame}

module _ {A B : Type 0} (f : A → B) (met : List B) (xs : List A) where
  -- what was met, with the first ones
  abbrev pub with_first : ℕ → List B
  with_first i = met ++ map f (take i xs)

  pub none_first : (marked : List B) → IsPermutation marked met → IsPermutation marked (with_first 0)
  none_first marked before = subst (IsPermutation marked) (sym (append-nil met)) before

  pub all_first : (marked : List B) (i : ℕ) → length xs ≤ i → IsPermutation marked (with_first i) → IsPermutation marked (met ++ map f xs)
  all_first marked i long before = subst (λ (z : List A). IsPermutation marked (met ++ map f z)) (take_all i xs long) before

  first_more : (i : ℕ) (x : A) → i < length xs → get_or xs i x ≡ x → with_first i ++ f x ∷ [] ≡ with_first (i + 1)
  first_more i x lt is =
      append_assoc met (map f (take i xs)) (f x ∷ [])
      ∙ ap (λ (z : List B). met ++ z)
      (ap (λ (y : A). map f (take i xs) ++ f y ∷ []) (sym is)
      ∙ (sym (map-append f (take i xs) (get_or xs i x ∷ [])) ∙ ap (map f) (sym (take_more xs i x lt))))

  first_rest : (i : ℕ) → with_first i ++ map f (drop i xs) ≡ met ++ map f xs
  first_rest i =
      append_assoc met (map f (take i xs)) (map f (drop i xs))
      ∙ ap (λ (z : List B). met ++ z) (sym (map-append f (take i xs) (drop i xs)) ∙ ap (map f) (take-append-drop i xs))

  first_and_rest : (i : ℕ) (x : A) → i < length xs → get_or xs i x ≡ x → (more : List B)
      → (met ++ map f xs) ++ more ≡ with_first i ++ f x ∷ (map f (drop (i + 1) xs) ++ more)
  first_and_rest i x lt is more =
      ap (λ (z : List B). z ++ more) (sym (first_rest (i + 1)) ∙ ap (λ (z : List B). z ++ map f (drop (i + 1) xs)) (sym (first_more i x lt is)))
      ∙ (ap (λ (z : List B). z ++ more) (append_assoc (with_first i) (f x ∷ []) (map f (drop (i + 1) xs)))
      ∙ append_assoc (with_first i) (f x ∷ map f (drop (i + 1) xs)) more)

  -- one more was noted
  pub noted_one : (i : ℕ) (x : A) → i < length xs → slice_get xs i ≡ Some x → (all marked : List B) (r : Bool) → Notes all marked (with_first i) (f x) r → r ≡ true
      → IsPermutation marked (with_first (i + 1))
  noted_one i x lt is all marked true noted so = subst (IsPermutation marked) (first_more i x lt (get_or_from_slice_get xs i x x is)) noted
  noted_one i x lt is all marked false noted so = absurd cc

  -- one that was not noted is too many, and with it all
  pub not_noted : (i : ℕ) (x : A) → i < length xs → slice_get xs i ≡ Some x → (all marked : List B) (r : Bool) → Notes all marked (with_first i) (f x) r → r ≡ false
      → (p : B → Bool) → p (f x) ≡ true → NeverSame p all (met ++ map f xs)
  not_noted i x lt is all marked true noted not_so p passes = absurd cc
  not_noted i x lt is all marked false noted not_so p passes = λ more same.
      noted p passes (map f (drop (i + 1) xs) ++ more)
      (subst (λ (z : List B). IsPermutation (filter p all) (filter p z)) (first_and_rest i x lt (get_or_from_slice_get xs i x x is) more) same)

-- The members of two lists that were merged.
use Rattle.convert_core_laws.proofs.Imports.{◌≡◌, List, [], ◌∷◌, sym, subst, ⊎_elim, refl, arith, Contains, Ordering, Less, Equal, Greater, at_head, head_or_tail, in_tail, merge, merge-equal, merge-greater, merge-less}

by_order : {P : Type 0} (k : Ordering) → (k ≡ Less → P) → (k ≡ Equal → P) → (k ≡ Greater → P) → P
by_order Less a b c = a refl
by_order Equal a b c = b refl
by_order Greater a b c = c refl

module _ {K : Type 0} (cmp : K → K → Ordering) where
  -- the head of a list, or what was there already
  put : (x t : K) (xs l : List K) → Contains (x ∷ xs) t → (Contains xs t → Contains l t) → Contains (x ∷ l) t
  put x t xs l h on = ⊎_elim (λ (same : x ≡ t). subst (Contains (x ∷ l)) same (at_head x l)) (λ later. in_tail x l t (on later)) (head_or_tail x xs t h)

  first_at : (x t : K) (xs : List K) → ((ys : List K) → Contains xs t → Contains (merge cmp xs ys) t) → (ys : List K) → Contains (x ∷ xs) t → Contains (merge cmp (x ∷ xs) ys) t
  first_at x t xs on [] h = h
  first_at x t xs on (y ∷ ys) h =
      by_order (cmp x y)
      (λ e. subst (λ (l : List K). Contains l t) (sym (merge-less cmp x xs y ys e)) (put x t xs (merge cmp xs (y ∷ ys)) h (on (y ∷ ys))))
      (λ e. subst (λ (l : List K). Contains l t) (sym (merge-equal cmp x xs y ys e)) (put x t xs (merge cmp xs ys) h (on ys)))
      (λ e. subst (λ (l : List K). Contains l t) (sym (merge-greater cmp x xs y ys e)) (in_tail y (merge cmp (x ∷ xs) ys) t (first_at x t xs on ys h)))

  -- those of the first list
  pub in_first : (t : K) (xs ys : List K) → Contains xs t → Contains (merge cmp xs ys) t
  in_first t [] ys h = absurd (omega (arith, h.1))
  in_first t (x ∷ xs) ys h = first_at x t xs (in_first t xs) ys h

  abbrev pub IsApart : K → List K → Type 0
  IsApart t xs = (x : K) → Contains xs x → cmp x t ≡ Equal → ⊥

  second_at : (x t : K) (xs : List K) → IsApart t (x ∷ xs) → ((ys : List K) → Contains ys t → Contains (merge cmp xs ys) t) → (ys : List K) → Contains ys t → Contains (merge cmp (x ∷ xs) ys) t
  second_at x t xs apart on [] h = absurd (omega (arith, h.1))
  second_at x t xs apart on (y ∷ ys) h =
      by_order (cmp x y)
      (λ e. subst (λ (l : List K). Contains l t) (sym (merge-less cmp x xs y ys e)) (in_tail x (merge cmp xs (y ∷ ys)) t (on (y ∷ ys) h)))
      (λ e. subst (λ (l : List K). Contains l t) (sym (merge-equal cmp x xs y ys e)) (in_tail x (merge cmp xs ys) t (on ys (⊎_elim (λ (same : y ≡ t). absurd (apart x (at_head x xs) (subst (λ (z : K). cmp x z ≡ Equal) same e))) (λ later. later) (head_or_tail y ys t h)))))
      (λ e. subst (λ (l : List K). Contains l t) (sym (merge-greater cmp x xs y ys e)) (put y t ys (merge cmp (x ∷ xs) ys) h (second_at x t xs apart on ys)))

  -- and those of the second one that are equal to none of the first
  pub in_second : (t : K) (xs ys : List K) → IsApart t xs → Contains ys t → Contains (merge cmp xs ys) t
  in_second t [] ys apart h = h
  in_second t (x ∷ xs) ys apart h = second_at x t xs apart (λ zs. in_second t xs zs (λ z l. apart z (in_tail x xs z l))) ys h

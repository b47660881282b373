-- Merging two lists by an order: one step, the members of the result, and what one element more in a list changes.
use Rattle.space_items.proofs.Imports.{◌≡◌, ⊎_elim, ◌⊎◌, inl, inr, ℕ, suc, ◌+◌, ◌<◌, ◌≤◌, true, List, [], ◌∷◌, ◌++◌, length, map, get_or, refl, sym, ◌∙◌, ap, subst, subst₂, arith, lt-ltb, le-ltb, eq-eqb, ne_eqb, IsTotalOrder, nat_cmp, match_ordering, ordering_reverse, Ordering, Less, Equal, Greater, All-cons, All-head, All-tail, sum_by-cons, AllPairs-cons, All, AllPairs}
use Rattle.std.specs.List.{sum_by}
use Rattle.std.specs.Set.{sorted_merge}

by_order : {P : Type 0} (k : Ordering) → (k ≡ Less → P) → (k ≡ Equal → P) → (k ≡ Greater → P) → P
by_order Less a b c = a refl
by_order Equal a b c = b refl
by_order Greater a b c = c refl

pub nat_less : (a b : ℕ) → a < b → nat_cmp a b ≡ Less
nat_less a b h = rw (lt-ltb a b h) refl

pub nat_equal : (a b : ℕ) → a ≡ b → nat_cmp a b ≡ Equal
nat_equal a b h = rw (le-ltb a b (omega arith), eq-eqb a b h) refl

pub nat_greater : (a b : ℕ) → b < a → nat_cmp a b ≡ Greater
nat_greater a b h = rw (le-ltb a b (omega arith), ne_eqb a b (λ e. omega arith)) refl

module _ {K : Type 0} (cmp : K → K → Ordering) where
  abbrev pub merge : List K → List K → List K
  merge xs ys = sorted_merge cmp true xs ys

  pub merge-nil : (xs : List K) → merge xs [] ≡ xs
  merge-nil [] = refl
  merge-nil (x ∷ xs) = refl

  pub merge-less : (x : K) (xs : List K) (y : K) (ys : List K) → cmp x y ≡ Less → merge (x ∷ xs) (y ∷ ys) ≡ x ∷ merge xs (y ∷ ys)
  merge-less x xs y ys e = ap (λ k. match_ordering k (x ∷ merge xs (y ∷ ys)) (x ∷ merge xs ys) (y ∷ merge (x ∷ xs) ys)) e

  pub merge-equal : (x : K) (xs : List K) (y : K) (ys : List K) → cmp x y ≡ Equal → merge (x ∷ xs) (y ∷ ys) ≡ x ∷ merge xs ys
  merge-equal x xs y ys e = ap (λ k. match_ordering k (x ∷ merge xs (y ∷ ys)) (x ∷ merge xs ys) (y ∷ merge (x ∷ xs) ys)) e

  pub merge-greater : (x : K) (xs : List K) (y : K) (ys : List K) → cmp x y ≡ Greater → merge (x ∷ xs) (y ∷ ys) ≡ y ∷ merge (x ∷ xs) ys
  merge-greater x xs y ys e = ap (λ k. match_ordering k (x ∷ merge xs (y ∷ ys)) (x ∷ merge xs ys) (y ∷ merge (x ∷ xs) ys)) e

  sum_at : (f : K → ℕ) (x : K) (xs : List K) → ((ys : List K) → sum_by f (merge xs ys) ≤ sum_by f xs + sum_by f ys) → (ys : List K) → sum_by f (merge (x ∷ xs) ys) ≤ sum_by f (x ∷ xs) + sum_by f ys
  sum_at f x xs on [] = omega arith
  sum_at f x xs on (y ∷ ys) =
      by_order (cmp x y)
      (λ e. omega (arith, ap (sum_by f) (merge-less x xs y ys e), sum_by-cons f x (merge xs (y ∷ ys)), on (y ∷ ys), sum_by-cons f x xs))
      (λ e. omega (arith, ap (sum_by f) (merge-equal x xs y ys e), sum_by-cons f x (merge xs ys), on ys, sum_by-cons f x xs, sum_by-cons f y ys))
      (λ e. omega (arith, ap (sum_by f) (merge-greater x xs y ys e), sum_by-cons f y (merge (x ∷ xs) ys), sum_at f x xs on ys, sum_by-cons f y ys))

  -- a sum over the result is at most that over both lists
  pub sum-merge : (f : K → ℕ) (xs ys : List K) → sum_by f (merge xs ys) ≤ sum_by f xs + sum_by f ys
  sum-merge f [] ys = omega arith
  sum-merge f (x ∷ xs) ys = sum_at f x xs (sum-merge f xs) ys

  length_at : (x : K) (xs : List K) → ((ys : List K) → length (merge xs ys) ≤ length xs + length ys) → (ys : List K) → length (merge (x ∷ xs) ys) ≤ suc (length xs) + length ys
  length_at x xs on [] = omega arith
  length_at x xs on (y ∷ ys) =
      by_order (cmp x y)
      (λ e. omega (arith, ap length (merge-less x xs y ys e), on (y ∷ ys)))
      (λ e. omega (arith, ap length (merge-equal x xs y ys e), on ys))
      (λ e. omega (arith, ap length (merge-greater x xs y ys e), length_at x xs on ys))

  pub length-merge : (xs ys : List K) → length (merge xs ys) ≤ length xs + length ys
  length-merge [] ys = omega arith
  length-merge (x ∷ xs) ys = length_at x xs (length-merge xs) ys

  all_at : (P : K → Type 0) (x : K) (xs : List K) → P x → All P xs → ((ys : List K) → All P ys → All P (merge xs ys)) → (ys : List K) → All P ys → All P (merge (x ∷ xs) ys)
  all_at P x xs p ps on [] qs = All-cons P x xs p ps
  all_at P x xs p ps on (y ∷ ys) qs =
      by_order (cmp x y)
      (λ e. subst (All P) (sym (merge-less x xs y ys e)) (All-cons P x (merge xs (y ∷ ys)) p (on (y ∷ ys) qs)))
      (λ e. subst (All P) (sym (merge-equal x xs y ys e)) (All-cons P x (merge xs ys) p (on ys (All-tail P y ys qs))))
      (λ e. subst (All P) (sym (merge-greater x xs y ys e)) (All-cons P y (merge (x ∷ xs) ys) (All-head P y ys qs) (all_at P x xs p ps on ys (All-tail P y ys qs))))

  -- what holds in both lists holds in the result
  pub all-merge : (P : K → Type 0) (xs ys : List K) → All P xs → All P ys → All P (merge xs ys)
  all-merge P [] ys ps qs = qs
  all-merge P (x ∷ xs) ys ps qs = all_at P x xs (All-head P x xs ps) (All-tail P x xs ps) (λ zs. all-merge P xs zs (All-tail P x xs ps)) ys qs

  -- y is below the first element of ys, if there is one
  abbrev pub IsAbove : K → List K → Type 0
  IsAbove y [] = Unit {0}
  IsAbove y (z ∷ zs) = cmp y z ≡ Less

  above-merge : (y : K) (xs ys : List K) → IsAbove y xs → IsAbove y ys → IsAbove y (merge xs ys)
  above-merge y [] ys a b = b
  above-merge y (x ∷ xs) [] a b = a
  above-merge y (x ∷ xs) (z ∷ zs) a b =
      by_order (cmp x z)
      (λ e. subst (IsAbove y) (sym (merge-less x xs z zs e)) a)
      (λ e. subst (IsAbove y) (sym (merge-equal x xs z zs e)) a)
      (λ e. subst (IsAbove y) (sym (merge-greater x xs z zs e)) b)

-- y was put into xs, before what is above it
pub record IsPut {K : Type 0} (cmp : K → K → Ordering) (y : K) (xs ys : List K) : Type 0 where
  pub before : List K
  pub after : List K
  pub without : xs ≡ before ++ after
  pub with : ys ≡ before ++ y ∷ after
  pub above : IsAbove cmp y after

-- y was put into xs, or xs has it already
abbrev pub IsMore : {K : Type 0} → (K → K → Ordering) → K → List K → List K → Type 0
IsMore {K} cmp y xs ys = (xs ≡ ys) ⊎ IsPut cmp y xs ys

module _ {K : Type 0} (cmp : K → K → Ordering) where
  -- the same behind an element
  more_behind : (y z : K) (xs ys : List K) → IsMore cmp y xs ys → IsMore cmp y (z ∷ xs) (z ∷ ys)
  more_behind y z xs ys more =
      ⊎_elim
      (λ (same : xs ≡ ys). inl (ap (λ zs. z ∷ zs) same))
      (λ (put : IsPut cmp y xs ys).
      inr (record {
        before = z ∷ put.before;
        after = put.after;
        without = ap (λ zs. z ∷ zs) put.without;
        with = ap (λ zs. z ∷ zs) put.with;
        above = put.above;
      }))
      more

  put_now : (y : K) (xs ys : List K) → IsAbove cmp y xs → ys ≡ y ∷ xs → IsMore cmp y xs ys
  put_now y xs ys above is = inr (record { before = []; after = xs; without = refl; with = is; above = above })

  module _ (o : IsTotalOrder cmp) where
    turned : (x y : K) → cmp x y ≡ Greater → cmp y x ≡ Less
    turned x y h = o.antisymm y x ∙ ap ordering_reverse h

    back : (x y : K) → cmp x y ≡ Less → cmp y x ≡ Greater
    back x y h = o.antisymm y x ∙ ap ordering_reverse h

    -- x goes before what is above it
    less_first : (x : K) (xs r : List K) → IsAbove cmp x r → merge cmp (x ∷ xs) r ≡ x ∷ merge cmp xs r
    less_first x xs [] above = ap (λ zs. x ∷ zs) (sym (merge-nil cmp xs))
    less_first x xs (z ∷ r) above = merge-less cmp x xs z r above

    less_second : (p : K) (r ps : List K) → IsAbove cmp p r → merge cmp r (p ∷ ps) ≡ p ∷ merge cmp r ps
    less_second p [] ps above = refl
    less_second p (z ∷ r) ps above = merge-greater cmp z r p ps (back p z above)

    lower : (x y : K) (r : List K) → cmp x y ≡ Less → IsAbove cmp y r → IsAbove cmp x r
    lower x y [] less above = tt
    lower x y (z ∷ r) less above = o.trans x y z less above

    alike : (x y : K) (r : List K) → cmp x y ≡ Equal → IsAbove cmp y r → IsAbove cmp x r
    alike x y [] same above = tt
    alike x y (z ∷ r) same above = o.congr x y z same ∙ above

    second_at : (y x : K) (xs r : List K) → IsAbove cmp y r → ((l r : List K) → IsAbove cmp y r → IsMore cmp y (merge cmp xs (l ++ r)) (merge cmp xs (l ++ y ∷ r)))
        → (l : List K) → IsMore cmp y (merge cmp (x ∷ xs) (l ++ r)) (merge cmp (x ∷ xs) (l ++ y ∷ r))
    second_at y x xs r above on [] =
        by_order (cmp x y)
        (λ e. subst (λ zs. IsMore cmp y zs (merge cmp (x ∷ xs) (y ∷ r))) (sym (less_first x xs r (lower x y r e above)))
        (subst (IsMore cmp y (x ∷ merge cmp xs r)) (sym (merge-less cmp x xs y r e)) (more_behind y x (merge cmp xs r) (merge cmp xs (y ∷ r)) (on [] r above))))
        (λ e. inl (less_first x xs r (alike x y r e above) ∙ sym (merge-equal cmp x xs y r e)))
        (λ e. put_now y (merge cmp (x ∷ xs) r) (merge cmp (x ∷ xs) (y ∷ r)) (above-merge cmp y (x ∷ xs) r (turned x y e) above) (merge-greater cmp x xs y r e))
    second_at y x xs r above on (z ∷ l) =
        by_order (cmp x z)
        (λ e. subst₂ (IsMore cmp y) (sym (merge-less cmp x xs z (l ++ r) e)) (sym (merge-less cmp x xs z (l ++ y ∷ r) e)) (more_behind y x (merge cmp xs (z ∷ (l ++ r))) (merge cmp xs (z ∷ (l ++ y ∷ r))) (on (z ∷ l) r above)))
        (λ e. subst₂ (IsMore cmp y) (sym (merge-equal cmp x xs z (l ++ r) e)) (sym (merge-equal cmp x xs z (l ++ y ∷ r) e)) (more_behind y x (merge cmp xs (l ++ r)) (merge cmp xs (l ++ y ∷ r)) (on l r above)))
        (λ e. subst₂ (IsMore cmp y) (sym (merge-greater cmp x xs z (l ++ r) e)) (sym (merge-greater cmp x xs z (l ++ y ∷ r) e))
        (more_behind y z (merge cmp (x ∷ xs) (l ++ r)) (merge cmp (x ∷ xs) (l ++ y ∷ r)) (second_at y x xs r above on l)))

    -- one element more in the second list
    pub more_second : (y : K) (xs l r : List K) → IsAbove cmp y r → IsMore cmp y (merge cmp xs (l ++ r)) (merge cmp xs (l ++ y ∷ r))
    more_second y [] l r above = inr (record { before = l; after = r; without = refl; with = refl; above = above })
    more_second y (x ∷ xs) l r above = second_at y x xs r above (more_second y xs) l

    -- the second list has nothing equal to y
    abbrev pub IsApart : K → List K → Type 0
    IsApart y ps = All (λ p. cmp y p ≡ Equal → ⊥) ps

    first_now : (y : K) (r ps : List K) → IsAbove cmp y r → IsApart y ps → IsMore cmp y (merge cmp r ps) (merge cmp (y ∷ r) ps)
    first_now y r [] above apart = put_now y (merge cmp r []) (y ∷ r) (subst (IsAbove cmp y) (sym (merge-nil cmp r)) above) (ap (λ zs. y ∷ zs) (sym (merge-nil cmp r)))
    first_now y r (p ∷ ps) above apart =
        by_order (cmp y p)
        (λ e. put_now y (merge cmp r (p ∷ ps)) (merge cmp (y ∷ r) (p ∷ ps)) (above-merge cmp y r (p ∷ ps) above e) (merge-less cmp y r p ps e))
        (λ e. absurd (All-head (λ q. cmp y q ≡ Equal → ⊥) p ps apart e))
        (λ e. subst₂ (IsMore cmp y) (sym (less_second p r ps (lower p y r (turned y p e) above))) (sym (merge-greater cmp y r p ps e))
        (more_behind y p (merge cmp r ps) (merge cmp (y ∷ r) ps) (first_now y r ps above (All-tail (λ q. cmp y q ≡ Equal → ⊥) p ps apart))))

    first_at : (y z : K) (l r : List K) → ((ps : List K) → IsApart y ps → IsMore cmp y (merge cmp (l ++ r) ps) (merge cmp (l ++ y ∷ r) ps)) → IsAbove cmp y r
        → (ps : List K) → IsApart y ps → IsMore cmp y (merge cmp (z ∷ (l ++ r)) ps) (merge cmp (z ∷ (l ++ y ∷ r)) ps)
    first_at y z l r on above [] apart = inr (record { before = z ∷ l; after = r; without = refl; with = refl; above = above })
    first_at y z l r on above (p ∷ ps) apart =
        by_order (cmp z p)
        (λ e. subst₂ (IsMore cmp y) (sym (merge-less cmp z (l ++ r) p ps e)) (sym (merge-less cmp z (l ++ y ∷ r) p ps e)) (more_behind y z (merge cmp (l ++ r) (p ∷ ps)) (merge cmp (l ++ y ∷ r) (p ∷ ps)) (on (p ∷ ps) apart)))
        (λ e. subst₂ (IsMore cmp y) (sym (merge-equal cmp z (l ++ r) p ps e)) (sym (merge-equal cmp z (l ++ y ∷ r) p ps e)) (more_behind y z (merge cmp (l ++ r) ps) (merge cmp (l ++ y ∷ r) ps) (on ps (All-tail (λ q. cmp y q ≡ Equal → ⊥) p ps apart))))
        (λ e. subst₂ (IsMore cmp y) (sym (merge-greater cmp z (l ++ r) p ps e)) (sym (merge-greater cmp z (l ++ y ∷ r) p ps e))
        (more_behind y p (merge cmp (z ∷ (l ++ r)) ps) (merge cmp (z ∷ (l ++ y ∷ r)) ps) (first_at y z l r on above ps (All-tail (λ q. cmp y q ≡ Equal → ⊥) p ps apart))))

    -- one element more in the first list
    pub more_first : (y : K) (l r ps : List K) → IsAbove cmp y r → IsApart y ps → IsMore cmp y (merge cmp (l ++ r) ps) (merge cmp (l ++ y ∷ r) ps)
    more_first y [] r ps above apart = first_now y r ps above apart
    more_first y (z ∷ l) r ps above apart = first_at y z l r (λ qs. more_first y l r qs above) above ps apart

    pub more_in_first : (y : K) (xs ys ps : List K) → IsMore cmp y xs ys → IsApart y ps → IsMore cmp y (merge cmp xs ps) (merge cmp ys ps)
    more_in_first y xs ys ps more apart =
        ⊎_elim
        (λ (same : xs ≡ ys). inl (ap (λ zs. merge cmp zs ps) same))
        (λ (put : IsPut cmp y xs ys).
        subst₂ (λ us vs. IsMore cmp y (merge cmp us ps) (merge cmp vs ps)) (sym put.without) (sym put.with) (more_first y put.before put.after ps put.above apart))
        more

    pub more_in_second : (y : K) (zs xs ys : List K) → IsMore cmp y xs ys → IsMore cmp y (merge cmp zs xs) (merge cmp zs ys)
    more_in_second y zs xs ys more =
        ⊎_elim
        (λ (same : xs ≡ ys). inl (ap (merge cmp zs) same))
        (λ (put : IsPut cmp y xs ys). subst₂ (λ us vs. IsMore cmp y (merge cmp zs us) (merge cmp zs vs)) (sym put.without) (sym put.with) (more_second y zs put.before put.after put.above))
        more

    lower_all : (x y : K) (ys : List K) → cmp x y ≡ Less → All (λ z. cmp y z ≡ Less) ys → All (λ z. cmp x z ≡ Less) (y ∷ ys)
    lower_all x y ys less below = All-cons (λ z. cmp x z ≡ Less) y ys less (λ k d h. o.trans x y (get_or ys k d) less (below k d h))

    alike_all : (x y : K) (ys : List K) → cmp x y ≡ Equal → All (λ z. cmp y z ≡ Less) ys → All (λ z. cmp x z ≡ Less) ys
    alike_all x y ys same below = λ k d h. o.congr x y (get_or ys k d) same ∙ below k d h

    -- ascending lists, each element below all later ones
    abbrev pub Rises : List K → Type 0
    Rises xs = AllPairs (λ x y. cmp x y ≡ Less) xs

    rises_head : (x : K) (xs : List K) → Rises (x ∷ xs) → All (λ z. cmp x z ≡ Less) xs
    rises_head x xs up = λ k d h. up 0 (suc k) d (omega arith) (omega arith)

    rises_tail : (x : K) (xs : List K) → Rises (x ∷ xs) → Rises xs
    rises_tail x xs up = λ i j d l h. up (suc i) (suc j) d (omega arith) (omega arith)

    rises_at : (x : K) (xs : List K) → Rises (x ∷ xs) → ((ys : List K) → Rises ys → Rises (merge cmp xs ys)) → (ys : List K) → Rises ys → Rises (merge cmp (x ∷ xs) ys)
    rises_at x xs up on [] also = up
    rises_at x xs up on (y ∷ ys) also =
        by_order (cmp x y)
        (λ e. subst Rises (sym (merge-less cmp x xs y ys e))
        (AllPairs-cons (λ a b. cmp a b ≡ Less) x (merge cmp xs (y ∷ ys)) (all-merge cmp (λ z. cmp x z ≡ Less) xs (y ∷ ys) (rises_head x xs up) (lower_all x y ys e (rises_head y ys also))) (on (y ∷ ys) also)))
        (λ e. subst Rises (sym (merge-equal cmp x xs y ys e))
        (AllPairs-cons (λ a b. cmp a b ≡ Less) x (merge cmp xs ys) (all-merge cmp (λ z. cmp x z ≡ Less) xs ys (rises_head x xs up) (alike_all x y ys e (rises_head y ys also))) (on ys (rises_tail y ys also))))
        (λ e. subst Rises (sym (merge-greater cmp x xs y ys e))
        (AllPairs-cons (λ a b. cmp a b ≡ Less) y (merge cmp (x ∷ xs) ys) (all-merge cmp (λ z. cmp y z ≡ Less) (x ∷ xs) ys (lower_all y x xs (turned x y e) (rises_head x xs up)) (rises_head y ys also)) (rises_at x xs up on ys (rises_tail y ys also))))

    pub rises-merge : (xs ys : List K) → Rises xs → Rises ys → Rises (merge cmp xs ys)
    rises-merge [] ys up also = also
    rises-merge (x ∷ xs) ys up also = rises_at x xs up (λ zs zup. rises-merge xs zs (rises_tail x xs up) zup) ys also

-- another form of the elements, which the order goes by
module _ {K L : Type 0} (cmp : K → K → Ordering) (cmp' : L → L → Ordering) (f : K → L) (same : (x y : K) → cmp x y ≡ cmp' (f x) (f y)) where
  map_at : (x : K) (xs : List K) → ((ys : List K) → map f (merge cmp xs ys) ≡ merge cmp' (map f xs) (map f ys)) → (ys : List K) → map f (merge cmp (x ∷ xs) ys) ≡ merge cmp' (f x ∷ map f xs) (map f ys)
  map_at x xs on [] = refl
  map_at x xs on (y ∷ ys) =
      by_order (cmp x y)
      (λ e. ap (map f) (merge-less cmp x xs y ys e) ∙ (ap (λ zs. f x ∷ zs) (on (y ∷ ys)) ∙ sym (merge-less cmp' (f x) (map f xs) (f y) (map f ys) (sym (same x y) ∙ e))))
      (λ e. ap (map f) (merge-equal cmp x xs y ys e) ∙ (ap (λ zs. f x ∷ zs) (on ys) ∙ sym (merge-equal cmp' (f x) (map f xs) (f y) (map f ys) (sym (same x y) ∙ e))))
      (λ e. ap (map f) (merge-greater cmp x xs y ys e) ∙ (ap (λ zs. f y ∷ zs) (map_at x xs on ys) ∙ sym (merge-greater cmp' (f x) (map f xs) (f y) (map f ys) (sym (same x y) ∙ e))))

  pub map-merge : (xs ys : List K) → map f (merge cmp xs ys) ≡ merge cmp' (map f xs) (map f ys)
  map-merge [] ys = refl
  map-merge (x ∷ xs) ys = map_at x xs (map-merge xs) ys

-- the same, where the order goes by the other form at least between elements of the two lists
module _ {K L : Type 0} (cmp : K → K → Ordering) (cmp' : L → L → Ordering) (f : K → L) where
  abbrev pub Across : List K → List K → Type 0
  Across xs ys = All (λ x. All (λ y. cmp x y ≡ cmp' (f x) (f y)) ys) xs

  across_tail : (xs : List K) (y : K) (ys : List K) → Across xs (y ∷ ys) → Across xs ys
  across_tail xs y ys across = λ k d h. All-tail (λ z. cmp (get_or xs k d) z ≡ cmp' (f (get_or xs k d)) (f z)) y ys (across k d h)

  across_at : (x : K) (xs : List K) → ((ys : List K) → Across xs ys → map f (merge cmp xs ys) ≡ merge cmp' (map f xs) (map f ys)) → (ys : List K) → Across (x ∷ xs) ys → map f (merge cmp (x ∷ xs) ys) ≡ merge cmp' (f x ∷ map f xs) (map f ys)
  across_at x xs on [] across = refl
  across_at x xs on (y ∷ ys) across =
      let same : cmp x y ≡ cmp' (f x) (f y) = All-head (λ z. cmp x z ≡ cmp' (f x) (f z)) y ys (All-head (λ w. All (λ z. cmp w z ≡ cmp' (f w) (f z)) (y ∷ ys)) x xs across) in
      let rest : Across xs (y ∷ ys) = All-tail (λ w. All (λ z. cmp w z ≡ cmp' (f w) (f z)) (y ∷ ys)) x xs across in
      by_order (cmp x y)
      (λ e. ap (map f) (merge-less cmp x xs y ys e) ∙ (ap (λ zs. f x ∷ zs) (on (y ∷ ys) rest) ∙ sym (merge-less cmp' (f x) (map f xs) (f y) (map f ys) (sym same ∙ e))))
      (λ e. ap (map f) (merge-equal cmp x xs y ys e) ∙ (ap (λ zs. f x ∷ zs) (on ys (across_tail xs y ys rest)) ∙ sym (merge-equal cmp' (f x) (map f xs) (f y) (map f ys) (sym same ∙ e))))
      (λ e. ap (map f) (merge-greater cmp x xs y ys e) ∙ (ap (λ zs. f y ∷ zs) (across_at x xs on ys (across_tail (x ∷ xs) y ys across)) ∙ sym (merge-greater cmp' (f x) (map f xs) (f y) (map f ys) (sym same ∙ e))))

  pub map-merge-across : (xs ys : List K) → Across xs ys → map f (merge cmp xs ys) ≡ merge cmp' (map f xs) (map f ys)
  map-merge-across [] ys across = refl
  map-merge-across (x ∷ xs) ys across = across_at x xs (λ zs zacross. map-merge-across xs zs zacross) ys across

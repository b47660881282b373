-- Lists in another order.
use Rattle.btr_check_names.proofs.Imports.{◌≡◌, ◌≢◌, eqb, eq-eqb, ℕ, zero, suc, ◌<◌, ◌⊎◌, inl, inr, ⊎_elim, Bool, true, false, cond, List, [], ◌∷◌, ◌++◌, length, get_or, filter, refl, sym, ap, ◌∙◌, subst, arith, if◌then◌else◌, set, nat_tests, All-contains, All-contains_itself, All-filter, All-from_recursion, AllByRecursion, AllPairs, Contains, swap, cases_Bool, cases_eq, cases_lt, IsPermutation-refl, IsPermutation-sym, IsPermutation-cons, IsPermutation-trans, IsPermutation-to_front, IsPermutation-keeps, IsPermutation-middle, length_permutation, IsPermutation}
use Rattle.std.proofs.Common.{ne_eqb}
use Rattle.std.proofs.lemmas.List.Edits.{Swapped, length-swap, swap_is, swapped_from_swap}

-- an element of a list that is not empty
pub any_of : {A : Type 0} (xs : List A) (i : ℕ) → i < length xs → A
any_of [] i within = absurd (omega arith)
any_of (x ∷ xs) i within = x

-- the default of a read does not matter
pub get_or_any : {A : Type 0} (xs : List A) (i : ℕ) (d e : A) → i < length xs → get_or xs i e ≡ get_or xs i d
get_or_any [] i d e within = absurd (omega arith)
get_or_any (x ∷ xs) zero d e within = refl
get_or_any (x ∷ xs) (suc i) d e within = get_or_any xs i d e (omega arith)

-- ---- what passes a test

module _ {A : Type 0} (p : A → Bool) where
  filter_cons : (x : A) (xs ys : List A) → IsPermutation (filter p xs) (filter p ys) → IsPermutation (filter p (x ∷ xs)) (filter p (x ∷ ys))
  filter_cons x xs ys same = by (p x)
    where
      by : (b : Bool) → IsPermutation (cond b (x ∷ filter p xs) (filter p xs)) (cond b (x ∷ filter p ys) (filter p ys))
      by true = IsPermutation-cons x (filter p xs) (filter p ys) same
      by false = same

  filter_flip : (x y : A) (xs : List A) → IsPermutation (filter p (x ∷ (y ∷ xs))) (filter p (y ∷ (x ∷ xs)))
  filter_flip x y xs = by (p x) (p y)
    where
      by : (a b : Bool) → IsPermutation (cond a (x ∷ cond b (y ∷ filter p xs) (filter p xs)) (cond b (y ∷ filter p xs) (filter p xs))) (cond b (y ∷ cond a (x ∷ filter p xs) (filter p xs)) (cond a (x ∷ filter p xs) (filter p xs)))
      by true true = IsPermutation-middle (x ∷ []) y (filter p xs)
      by true false = IsPermutation-refl (x ∷ filter p xs)
      by false true = IsPermutation-refl (y ∷ filter p xs)
      by false false = IsPermutation-refl (filter p xs)

  -- an element in the place of another one, which goes to the front
  filter_exchange : (y d : A) (xs : List A) (i : ℕ) → i < length xs → IsPermutation (filter p (y ∷ xs)) (filter p (get_or xs i d ∷ set xs i y))
  filter_exchange y d [] i within = absurd (omega arith)
  filter_exchange y d (x ∷ xs) zero within = filter_flip y x xs
  filter_exchange y d (x ∷ xs) (suc i) within =
      IsPermutation-trans _ _ _ (filter_flip y x xs)
      (IsPermutation-trans _ _ _ (filter_cons x (y ∷ xs) (get_or xs i d ∷ set xs i y) (filter_exchange y d xs i (omega arith)))
      (filter_flip x (get_or xs i d) (set xs i y)))

  filter_swapped : (d : A) (xs : List A) (i j : ℕ) → i < length xs → j < length xs → IsPermutation (filter p xs) (filter p (set (set xs i (get_or xs j d)) j (get_or xs i d)))
  filter_swapped d [] i j within_i within_j = absurd (omega arith)
  filter_swapped d (x ∷ xs) zero zero within_i within_j = IsPermutation-refl (filter p (x ∷ xs))
  filter_swapped d (x ∷ xs) zero (suc j) within_i within_j = filter_exchange x d xs j (omega arith)
  filter_swapped d (x ∷ xs) (suc i) zero within_i within_j = filter_exchange x d xs i (omega arith)
  filter_swapped d (x ∷ xs) (suc i) (suc j) within_i within_j = filter_cons x xs (set (set xs i (get_or xs j d)) j (get_or xs i d)) (filter_swapped d xs i j (omega arith) (omega arith))

  -- What passes a test is the same in another order.
  pub filter_permutation : (xs ys : List A) → IsPermutation xs ys → IsPermutation (filter p xs) (filter p ys)
  filter_permutation xs ys = IsPermutation-keeps xs (λ l. IsPermutation (filter p xs) (filter p l)) (IsPermutation-refl (filter p xs)) step ys
    where
      step : (l : List A) (i j : ℕ) → i < length l → j < length l → IsPermutation (filter p xs) (filter p l) → IsPermutation (filter p xs) (filter p (swap l i j))
      step l i j within_i within_j before =
          let d : A = any_of l i within_i in
          IsPermutation-trans _ _ _ before (subst (λ (l' : List A). IsPermutation (filter p l) (filter p l')) (swap_is l i j d within_i within_j) (filter_swapped d l i j within_i within_j))

-- ---- elements that all differ

pub Contains-here : {A : Type 0} (x : A) (xs : List A) → Contains (x ∷ xs) x
Contains-here x xs = (0, omega arith, refl)

pub Contains-later : {A : Type 0} (y : A) (xs : List A) (x : A) → Contains xs x → Contains (y ∷ xs) x
Contains-later y xs x has = (suc has.0, omega (arith, has.1), has.2)

module _ {A : Type 0} (R : A → A → Type 0) (turned : (a b : A) → R a b → R b a) where
  any_two : (xs : List A) → AllPairs R xs → (i j : ℕ) (d : A) → i ≢ j → i < length xs → j < length xs → R (get_or xs i d) (get_or xs j d)
  any_two xs pairs i j d other within_i within_j =
      ⊎_elim (λ less. pairs i j d less within_j) (λ not_less. let more : j < i = omega arith in turned _ _ (pairs j i d more within_i)) (cases_lt i j)

  -- where an element stood before two were exchanged
  source : ℕ → ℕ → ℕ → ℕ
  source i j m = cond (eqb m i) j (cond (eqb m j) i m)

  source_apart : (i j m n : ℕ) → m ≢ n → source i j m ≢ source i j n
  unfolding source
  source_apart i j m n other = grind (arith, nat_tests)

  source_within : (i j m count : ℕ) → i < count → j < count → m < count → source i j m < count
  unfolding source
  source_within i j m count within_i within_j within = grind (arith, nat_tests)

  moved : (f g : ℕ → A) (i j m : ℕ) → Swapped f g i j → g m ≡ f (source i j m)
  unfolding source
  moved f g i j m swapped = by (cases_eq m i) (cases_eq m j)
    where
      at : (b c : Bool) → eqb m i ≡ b → eqb m j ≡ c → g m ≡ f (cond b j (cond c i m)) → g m ≡ f (cond (eqb m i) j (cond (eqb m j) i m))
      at b c first second is = rw (first, second) is

      by : (m ≡ i) ⊎ (m ≡ i → ⊥) → (m ≡ j) ⊎ (m ≡ j → ⊥) → g m ≡ f (cond (eqb m i) j (cond (eqb m j) i m))
      by (inl is) other = at true (eqb m j) (eq-eqb m i is) refl (ap g is ∙ swapped.0)
      by (inr not_so) (inl is) = at false true (ne_eqb m i not_so) (eq-eqb m j is) (ap g is ∙ swapped.1)
      by (inr not_so) (inr nor) = at false false (ne_eqb m i not_so) (ne_eqb m j nor) (swapped.2 m not_so nor)

  -- Pairs stay pairs in another order.
  pub AllPairs_permutation : (xs ys : List A) → IsPermutation xs ys → AllPairs R xs → AllPairs R ys
  AllPairs_permutation xs ys same pairs = IsPermutation-keeps xs (AllPairs R) pairs step ys same
    where
      step : (l : List A) (i j : ℕ) → i < length l → j < length l → AllPairs R l → AllPairs R (swap l i j)
      step l i j within_i within_j before m n d less within =
          let long = length-swap l i j in
          let exchanged = swapped_from_swap l (swap l i j) i j d within_i within_j refl in
          let first = moved (λ k. get_or l k d) (λ k. get_or (swap l i j) k d) i j m exchanged in
          let second = moved (λ k. get_or l k d) (λ k. get_or (swap l i j) k d) i j n exchanged in
          let other : m ≢ n = λ is. omega arith in
          subst (λ (x : A). R x (get_or (swap l i j) n d)) (sym first)
          (subst (λ (y : A). R (get_or l (source i j m) d) y) (sym second)
          (any_two l before (source i j m) (source i j n) d (source_apart i j m n other) (source_within i j m (length l) within_i within_j (omega arith)) (source_within i j n (length l) within_i within_j (omega arith))))

-- ---- elements among others

module _ {A : Type 0} (p : A → Bool) where
  pub Contains_filter : (xs : List A) (x : A) → p x ≡ true → Contains xs x → Contains (filter p xs) x
  Contains_filter xs x passes has = All-contains (λ (y : A). p y ≡ true → Contains (filter p xs) y) xs x (All-from_recursion (λ (y : A). p y ≡ true → Contains (filter p xs) y) xs (each xs)) has passes
    where
      each : (ys : List A) → AllByRecursion (λ (y : A). p y ≡ true → Contains (filter p ys) y) ys
      each [] = tt
      each (y ∷ ys) = ((λ is. rw is (Contains-here y (filter p ys))), later (p y) ys (each ys))
        where
          later : (b : Bool) (zs : List A) → AllByRecursion (λ (z : A). p z ≡ true → Contains (filter p ys) z) zs → AllByRecursion (λ (z : A). p z ≡ true → Contains (cond b (y ∷ filter p ys) (filter p ys)) z) zs
          later b [] all = tt
          later true (z ∷ zs) all = ((λ is. Contains-later y (filter p ys) z (all.0 is)), later true zs all.1)
          later false (z ∷ zs) all = ((λ is. all.0 is), later false zs all.1)

  pub Contains_unfiltered : (xs : List A) (x : A) → Contains (filter p xs) x → Contains xs x
  Contains_unfiltered xs x has = All-contains (Contains xs) (filter p xs) x (All-filter p (Contains xs) xs (All-contains_itself xs)) has

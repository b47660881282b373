-- Runs of one number in a list in order are its groups.
use Rattle.btr_item_list.proofs.Imports.{◌≡◌, ◌≢◌, ◌<◌, ◌≤◌, ℕ, zero, suc, ◌==◌, Bool, true, false, cond, List, [], ◌∷◌, ◌++◌, length, filter, map, take, drop, get_or, refl, sym, ap, subst, ◌∙◌, nat_lt, if◌then◌else◌, ⊎_elim, is_lt, not, ◌&&◌, arith, AllByRecursion, flat_map, IsNonDecreasingBy, IsSortedByKey, IsStableByKey, ties, nat_cmp, cases_lt, nat_tests, map-append, IsNonDecreasingBy-from_sort, in_group, grouped, ascending}
use Rattle.std.specs.List.{All}
use Rattle.btr_item_list.proofs.Grouping.{Above, other, above_in}
use Rattle.btr_item_list.proofs.Sorting.{Sorted, Same, ascending_is}

self : (n : ℕ) → (n == n) ≡ true
self n = grind (arith, nat_tests)

filter_alike : {A : Type 0} (p q : A → Bool) (xs : List A) → ((x : A) → p x ≡ q x) → filter p xs ≡ filter q xs
filter_alike p q [] same = refl
filter_alike {A} p q (x ∷ xs) same = ap (λ (b : Bool). cond b (x ∷ filter p xs) (filter p xs)) (same x) ∙ ap (λ (l : List A). cond (q x) (x ∷ l) l) (filter_alike p q xs same)

module _ {A : Type 0} (number : A → ℕ) where
  from_places : (P : A → Type 0) (xs : List A) → All P xs → AllByRecursion P xs
  from_places P [] all = tt
  from_places P (x ∷ xs) all = (all 0 x (omega arith), from_places P xs (λ k d h. all (suc k) d (omega (arith, h))))

  sorted_from : (xs : List A) → IsNonDecreasingBy number xs → Sorted number xs
  sorted_from [] rises = tt
  sorted_from (x ∷ xs) rises = (from_places (λ y. number x ≤ number y) xs (λ k d h. rises 0 (suc k) d (omega arith) (omega (arith, h))), sorted_from xs (λ i j d le lt. rises (suc i) (suc j) d (omega (arith, le)) (omega (arith, lt))))

  tied : (x y : A) → ties (λ a b. is_lt (nat_cmp (number a) (number b))) x y ≡ (number y == number x)
  tied x y = by (number x) (number y)
    where
      by : (a b : ℕ) → (not (is_lt (nat_cmp a b)) && not (is_lt (nat_cmp b a))) ≡ (b == a)
      by a b = grind (arith, nat_tests)

  same_from : (xs ys : List A) → IsStableByKey number nat_cmp xs ys → Same number ys xs
  same_from xs ys stable x =
      sym (filter_alike (ties (λ a b. is_lt (nat_cmp (number a) (number b))) x) (λ y. number y == number x) ys (tied x))
      ∙ (stable x ∙ filter_alike (ties (λ a b. is_lt (nat_cmp (number a) (number b))) x) (λ y. number y == number x) xs (tied x))

  -- what a stable sort makes
  pub sort_is : (xs ys : List A) → IsSortedByKey number nat_cmp ys → IsStableByKey number nat_cmp xs ys → ys ≡ ascending number xs
  sort_is xs ys sorted stable = ascending_is number xs ys (sorted_from ys (IsNonDecreasingBy-from_sort number ys sorted)) (same_from xs ys stable)

  pub sorted_drop : (n : ℕ) (xs : List A) → Sorted number xs → Sorted number (drop n xs)
  sorted_drop zero xs s = s
  sorted_drop (suc n) [] s = tt
  sorted_drop (suc n) (x ∷ xs) s = sorted_drop n xs s.1

  above_grouped : (n : ℕ) (xs : List A) → AllByRecursion (λ y. n < number y) xs → Above n (grouped number xs)
  above_grouped n [] all = tt
  above_grouped n (x ∷ xs) all = above_in n (number x) x (grouped number xs) all.0 (above_grouped n xs all.1)

  -- before groups that are above
  in_front : (n : ℕ) (x : A) (groups : List (ℕ × List A)) → Above n groups → in_group n x groups ≡ (n, x ∷ []) ∷ groups
  in_front n x [] above = refl
  in_front n x (g ∷ groups) above =
      ap (λ (b : Bool). if b then (n, x ∷ g.1) ∷ groups else (if nat_lt n g.0 then (n, x ∷ []) ∷ (g ∷ groups) else g ∷ in_group n x groups)) (other n g.0 above.0)
      ∙ ap (λ (b : Bool). if b then (n, x ∷ []) ∷ (g ∷ groups) else g ∷ in_group n x groups) (lt_true n g.0 above.0)
    where
      lt_true : (a b : ℕ) → a < b → nat_lt a b ≡ true
      lt_true a b less = grind (arith, nat_tests)

  joins : (n : ℕ) (x : A) (ys : List A) (groups : List (ℕ × List A)) → in_group n x ((n, ys) ∷ groups) ≡ (n, x ∷ ys) ∷ groups
  joins n x ys groups = ap (λ (b : Bool). if b then (n, x ∷ ys) ∷ groups else (if nat_lt n n then (n, x ∷ []) ∷ ((n, ys) ∷ groups) else (n, ys) ∷ in_group n x groups)) (self n)

  -- the rest behind a run is above
  rest_above : (n : ℕ) (xs : List A) → Sorted number xs → AllByRecursion (λ y. n ≤ number y) xs → ((d : A) → 0 < length xs → number (get_or xs 0 d) ≢ n) → AllByRecursion (λ y. n < number y) xs
  rest_above n [] s low apart = tt
  rest_above n (x ∷ xs) s low apart =
      let more : n < number x = more_than n (number x) low.0 (apart x (omega arith)) in
      (more, higher n (number x) xs more s.0)
    where
      more_than : (a b : ℕ) → a ≤ b → (b ≡ a → ⊥) → a < b
      more_than a b le ne = ⊎_elim (λ less. less) (λ not_less. absurd (ne (omega (arith, le, not_less)))) (cases_lt a b)

      higher : (m k : ℕ) (ys : List A) → m < k → AllByRecursion (λ y. k ≤ number y) ys → AllByRecursion (λ y. m < number y) ys
      higher m k [] less all = tt
      higher m k (y ∷ ys) less all = (omega (arith, less, all.0), higher m k ys less all.1)

  same_low : (n m : ℕ) (xs : List A) → m ≡ n → AllByRecursion (λ y. m ≤ number y) xs → AllByRecursion (λ y. n ≤ number y) xs
  same_low n m xs is all = subst (λ (k : ℕ). AllByRecursion (λ y. k ≤ number y) xs) is all

  -- a run at the front of a list in order is its first group
  pub first_run : (n m : ℕ) (xs : List A) → Sorted number xs → 0 < m → m ≤ length xs → ((k : ℕ) (d : A) → k < m → number (get_or xs k d) ≡ n) → ((d : A) → m < length xs → number (get_or xs m d) ≢ n)
      → grouped number xs ≡ (n, take m xs) ∷ grouped number (drop m xs)
  first_run n zero xs s some within own apart = absurd (omega (arith, some))
  first_run n (suc m) [] s some within own apart = absurd (omega (arith, within))
  first_run n (suc zero) (x ∷ xs) s some within own apart =
      let first : number x ≡ n = own 0 x (omega arith) in
      let rest = rest_above n xs s.1 (same_low n (number x) xs first s.0) (λ d h. apart d (omega (arith, h))) in
      ap (λ (k : ℕ). in_group k x (grouped number xs)) first ∙ in_front n x (grouped number xs) (above_grouped n xs rest)
  first_run n (suc (suc m)) (x ∷ xs) s some within own apart =
      let first : number x ≡ n = own 0 x (omega arith) in
      let later = first_run n (suc m) xs s.1 (omega arith) (omega (arith, within)) (λ k d h. own (suc k) d (omega (arith, h))) (λ d h. apart d (omega (arith, h))) in
      ap (λ (k : ℕ). in_group k x (grouped number xs)) first ∙ (ap (in_group n x) later ∙ joins n x (take (suc m) xs) (grouped number (drop (suc m) xs)))

-- groups of the images of elements
map_in : {A B : Type 0} (h : A → B) (n : ℕ) (x : A) (groups : List (ℕ × List A)) → map (λ (g : ℕ × List A). (g.0, map h g.1)) (in_group n x groups) ≡ in_group n (h x) (map (λ (g : ℕ × List A). (g.0, map h g.1)) groups)
map_in h n x [] = refl
map_in {A} {B} h n x (g ∷ groups) = by (map_in h n x groups) (n == g.0) (nat_lt n g.0)
  where
    mapped : List (ℕ × List A) → List (ℕ × List B)
    mapped gs = map (λ (f : ℕ × List A). (f.0, map h f.1)) gs

    by : mapped (in_group n x groups) ≡ in_group n (h x) (mapped groups) → (e l : Bool)
        → mapped (if e then (n, x ∷ g.1) ∷ groups else (if l then (n, x ∷ []) ∷ (g ∷ groups) else g ∷ in_group n x groups))
        ≡ (if e then (n, h x ∷ map h g.1) ∷ mapped groups else (if l then (n, h x ∷ []) ∷ ((g.0, map h g.1) ∷ mapped groups) else (g.0, map h g.1) ∷ in_group n (h x) (mapped groups)))
    by later true l = refl
    by later false true = refl
    by later false false = ap (λ (t : List (ℕ × List B)). (g.0, map h g.1) ∷ t) later

pub grouped_map : {A B : Type 0} (number : B → ℕ) (h : A → B) (xs : List A) → grouped number (map h xs) ≡ map (λ (g : ℕ × List A). (g.0, map h g.1)) (grouped (λ x. number (h x)) xs)
grouped_map number h [] = refl
grouped_map number h (x ∷ xs) = ap (in_group (number (h x)) (h x)) (grouped_map number h xs) ∙ sym (map_in h (number (h x)) x (grouped (λ y. number (h y)) xs))

flat_map_groups : {A B : Type 0} (h : A → B) (groups : List (ℕ × List A)) → flat_map (λ (g : ℕ × List B). g.1) (map (λ (g : ℕ × List A). (g.0, map h g.1)) groups) ≡ map h (flat_map (λ (g : ℕ × List A). g.1) groups)
flat_map_groups h [] = refl
flat_map_groups {A} {B} h (g ∷ groups) = ap (λ (l : List B). map h g.1 ++ l) (flat_map_groups h groups) ∙ sym (map-append h g.1 (flat_map (λ (f : ℕ × List A). f.1) groups))

pub ascending_map : {A B : Type 0} (number : B → ℕ) (h : A → B) (xs : List A) → ascending number (map h xs) ≡ map h (ascending (λ x. number (h x)) xs)
ascending_map {A} {B} number h xs = ap (λ (gs : List (ℕ × List B)). flat_map (λ (g : ℕ × List B). g.1) gs) (grouped_map number h xs) ∙ flat_map_groups h (grouped (λ x. number (h x)) xs)

-- the bytes of a group of images
pub flat_of_map : {A B C : Type 0} (h : A → B) (f : B → List C) (xs : List A) → flat_map f (map h xs) ≡ flat_map (λ x. f (h x)) xs
flat_of_map h f [] = refl
flat_of_map {A} {B} {C} h f (x ∷ xs) = ap (λ (l : List C). f (h x) ++ l) (flat_of_map h f xs)

-- the places of elements that pass a test

-- Elements that are marked, each once.
use Rattle.btr_check_names.proofs.Imports.{◌≡◌, ◌≢◌, ◌≤◌, ℕ, zero, suc, ◌+◌, ◌<◌, Bool, true, false, cond, List, [], ◌∷◌, ◌++◌, length, get_or, filter, map, refl, sym, ap, ◌∙◌, subst, arith, append_assoc, if◌then◌else◌, set, replicate, cases_Bool, true≢false, get_or-map, get_or_append_left, length-append, length-map, map-append, Contains-append_right, Contains-append_left, filter-append, AllPairs-filter, IsPermutation-refl, IsPermutation-sym, IsPermutation-cons, IsPermutation-trans, IsPermutation-to_front, IsPermutation-append_left, IsPermutation-append_right, IsPermutation-map, Contains-permutation, sum_by-IsPermutation, length_permutation, length-filter, sum_by-cons, AllPairs, Contains, count_by, sum_by, IsPermutation, IsTooMany, chosen}
use Rattle.btr_check_names.proofs.Permuting.{AllPairs_permutation, Contains-here, Contains-later, Contains_filter, Contains_unfiltered, filter_permutation}

-- ---- what can't be met

pub absent : {A : Type 0} (all met : List A) (x : A) → ¬ Contains all x → IsTooMany all met x
absent {A} all met x none = λ p passes more same.
    let has : Contains (met ++ x ∷ more) x = Contains-append_right met (x ∷ more) x (Contains-here x more) in
    let also : Contains (filter p all) x = Contains-permutation (filter p (met ++ x ∷ more)) (filter p all) x (IsPermutation-sym _ _ same) (Contains_filter p (met ++ x ∷ more) x passes has) in
    none (Contains_unfiltered p all x also)

pub met_before : {A : Type 0} (all met : List A) (x : A) → AllPairs ◌≢◌ all → Contains met x → IsTooMany all met x
met_before {A} all met x once has = λ p passes more same.
    let pairs : AllPairs ◌≢◌ (filter p (met ++ x ∷ more)) = AllPairs_permutation ◌≢◌ (λ a b other is. other (sym is)) (filter p all) (filter p (met ++ x ∷ more)) same (AllPairs-filter ◌≢◌ p all once) in
    let parts : filter p (met ++ x ∷ more) ≡ filter p met ++ x ∷ filter p more = filter-append p met (x ∷ more) ∙ ap (λ (b : Bool). filter p met ++ cond b (x ∷ filter p more) (filter p more)) passes in
    let twice : AllPairs ◌≢◌ (filter p met ++ x ∷ filter p more) = subst (AllPairs ◌≢◌) parts pairs in
    not_twice (filter p met) (filter p more) twice (Contains_filter p met x passes has)
  where
    not_twice : (front back : List A) → AllPairs ◌≢◌ (front ++ x ∷ back) → Contains front x → ⊥
    not_twice front back pairs at =
        let long = length-append front (x ∷ back) in
        let first : get_or (front ++ x ∷ back) at.0 x ≡ x = get_or_append_left front (x ∷ back) x at.0 at.1 ∙ at.2 in
        let second : get_or (front ++ x ∷ back) (length front) x ≡ x = behind front in
        pairs at.0 (length front) x at.1 (omega arith) (first ∙ sym second)
      where
        behind : (xs : List A) → get_or (xs ++ x ∷ back) (length xs) x ≡ x
        behind [] = refl
        behind (y ∷ ys) = behind ys

-- ---- marks

module _ {A : Type 0} where
  pub chosen_none : (n : ℕ) (xs : List A) → chosen (replicate n false) xs ≡ []
  chosen_none zero xs = refl
  chosen_none (suc n) [] = refl
  chosen_none (suc n) (x ∷ xs) = chosen_none n xs

  -- one mark more
  pub chosen_more : (marks : List Bool) (xs : List A) (i : ℕ) (d : A) (e : Bool) → length marks ≡ length xs → i < length xs → get_or marks i e ≡ false
      → IsPermutation (chosen (set marks i true) xs) (chosen marks xs ++ get_or xs i d ∷ [])
  chosen_more [] xs i d e long within unset = absurd (omega arith)
  chosen_more (m ∷ marks) [] i d e long within unset = absurd (omega arith)
  chosen_more (m ∷ marks) (x ∷ xs) zero d e long within unset = rw unset (IsPermutation-sym _ _ (IsPermutation-to_front (chosen marks xs) x))
  chosen_more (m ∷ marks) (x ∷ xs) (suc i) d e long within unset = by (chosen_more marks xs i d e (omega arith) (omega arith) unset) m
    where
      by : (IsPermutation (chosen (set marks i true) xs) (chosen marks xs ++ get_or xs i d ∷ [])) → (b : Bool) → IsPermutation (if b then x ∷ chosen (set marks i true) xs else chosen (set marks i true) xs) ((if b then x ∷ chosen marks xs else chosen marks xs) ++ get_or xs i d ∷ [])
      by later true = IsPermutation-cons x _ _ later
      by later false = later

  -- what has a mark
  pub chosen_has : (marks : List Bool) (xs : List A) (i : ℕ) (d : A) (e : Bool) → length marks ≡ length xs → i < length xs → get_or marks i e ≡ true → Contains (chosen marks xs) (get_or xs i d)
  chosen_has [] xs i d e long within marked = absurd (omega arith)
  chosen_has (m ∷ marks) [] i d e long within marked = absurd (omega arith)
  chosen_has (m ∷ marks) (x ∷ xs) zero d e long within marked = rw marked (Contains-here x (chosen marks xs))
  chosen_has (m ∷ marks) (x ∷ xs) (suc i) d e long within marked = by (chosen_has marks xs i d e (omega arith) (omega arith) marked) m
    where
      by : (Contains (chosen marks xs) (get_or xs i d)) → (b : Bool) → Contains (if b then x ∷ chosen marks xs else chosen marks xs) (get_or xs i d)
      by later true = Contains-later x _ _ later
      by later false = later

  -- all that pass a test have one
  pub chosen_all : (q : A → Bool) (marks : List Bool) (xs : List A) → length marks ≡ length xs → ((i : ℕ) (d : A) (e : Bool) → i < length xs → q (get_or xs i d) ≡ true → get_or marks i e ≡ true)
      → filter q (chosen marks xs) ≡ filter q xs
  chosen_all q [] [] long all = refl
  chosen_all q [] (x ∷ xs) long all = absurd (omega arith)
  chosen_all q (m ∷ marks) [] long all = refl
  chosen_all q (m ∷ marks) (x ∷ xs) long all = by (chosen_all q marks xs (omega arith) (λ i d e within passes. all (suc i) d e (omega arith) passes)) m (q x) refl refl
    where
      by : (filter q (chosen marks xs) ≡ filter q xs) → (b c : Bool) → m ≡ b → q x ≡ c → filter q (if m then x ∷ chosen marks xs else chosen marks xs) ≡ cond (q x) (x ∷ filter q xs) (filter q xs)
      by later true c marked is = rw marked (ap (λ (l : List A). cond (q x) (x ∷ l) l) later)
      by later false true unset is = absurd (true≢false (sym (all 0 x true (omega arith) is) ∙ unset))
      by later false false unset is = rw (unset, is) later

  pub chosen_sum : (f : A → ℕ) (marks : List Bool) (xs : List A) → sum_by f (chosen marks xs) ≤ sum_by f xs
  chosen_sum f [] xs = omega arith
  chosen_sum f (m ∷ marks) [] = omega arith
  chosen_sum f (m ∷ marks) (x ∷ xs) = by (chosen_sum f marks xs) m
    where
      by : (sum_by f (chosen marks xs) ≤ sum_by f xs) → (b : Bool) → sum_by f (if b then x ∷ chosen marks xs else chosen marks xs) ≤ sum_by f (x ∷ xs)
      by later true = omega (arith, sum_by-cons f x xs, sum_by-cons f x (chosen marks xs))
      by later false = omega (arith, sum_by-cons f x xs)

  -- what has none
  pub chosen_less : (f : A → ℕ) (marks : List Bool) (xs : List A) (i : ℕ) (d : A) (e : Bool) → length marks ≡ length xs → i < length xs → get_or marks i e ≡ false
      → sum_by f (chosen marks xs) + f (get_or xs i d) ≤ sum_by f xs
  chosen_less f [] xs i d e long within unset = absurd (omega arith)
  chosen_less f (m ∷ marks) [] i d e long within unset = absurd (omega arith)
  chosen_less f (m ∷ marks) (x ∷ xs) zero d e long within unset = rw unset (omega (arith, sum_by-cons f x xs, chosen_sum f marks xs))
  chosen_less f (m ∷ marks) (x ∷ xs) (suc i) d e long within unset = by (chosen_less f marks xs i d e (omega arith) (omega arith) unset) m
    where
      by : (sum_by f (chosen marks xs) + f (get_or xs i d) ≤ sum_by f xs) → (b : Bool) → sum_by f (if b then x ∷ chosen marks xs else chosen marks xs) + f (get_or xs i d) ≤ sum_by f (x ∷ xs)
      by later true = omega (arith, sum_by-cons f x xs, sum_by-cons f x (chosen marks xs))
      by later false = omega (arith, sum_by-cons f x xs)

-- ---- values of marked elements that pass a test, behind some others

module _ {A B : Type 0} (q : A → Bool) (f : A → B) (marks : List Bool) (xs : List A) (long : length marks ≡ length xs) where
  kept : List Bool → List B
  kept ms = map f (filter q (chosen ms xs))

  pub marked_one : (front met : List B) (i : ℕ) (d : A) (e : Bool) → i < length xs → get_or marks i e ≡ false → q (get_or xs i d) ≡ true
      → IsPermutation (front ++ map f (filter q (chosen marks xs))) met → IsPermutation (front ++ map f (filter q (chosen (set marks i true) xs))) (met ++ f (get_or xs i d) ∷ [])
  marked_one front met i d e within unset passes before =
      let x : A = get_or xs i d in
      let more : IsPermutation (filter q (chosen (set marks i true) xs)) (filter q (chosen marks xs ++ x ∷ [])) = filter_permutation q _ _ (chosen_more marks xs i d e long within unset) in
      let parts : filter q (chosen marks xs ++ x ∷ []) ≡ filter q (chosen marks xs) ++ x ∷ [] = filter-append q (chosen marks xs) (x ∷ []) ∙ ap (λ (b : Bool). filter q (chosen marks xs) ++ cond b (x ∷ []) []) passes in
      let values : map f (filter q (chosen marks xs ++ x ∷ [])) ≡ map f (filter q (chosen marks xs)) ++ f x ∷ [] = ap (map f) parts ∙ map-append f (filter q (chosen marks xs)) (x ∷ []) in
      let mapped : IsPermutation (map f (filter q (chosen (set marks i true) xs))) (map f (filter q (chosen marks xs)) ++ f x ∷ []) =
      subst (IsPermutation (map f (filter q (chosen (set marks i true) xs)))) values (IsPermutation-map f _ _ more) in
      let behind : IsPermutation (front ++ map f (filter q (chosen (set marks i true) xs))) ((front ++ map f (filter q (chosen marks xs))) ++ f x ∷ []) =
      subst (IsPermutation (front ++ map f (filter q (chosen (set marks i true) xs)))) (sym (append_assoc front (map f (filter q (chosen marks xs))) (f x ∷ []))) (IsPermutation-append_right front _ _ mapped) in
      IsPermutation-trans _ _ _ behind (IsPermutation-append_left (f x ∷ []) _ _ before)

  pub met_one : (front met : List B) (i : ℕ) (d : A) (e : Bool) → i < length xs → get_or marks i e ≡ true → q (get_or xs i d) ≡ true
      → IsPermutation (front ++ map f (filter q (chosen marks xs))) met → Contains met (f (get_or xs i d))
  met_one front met i d e within marked passes before =
      Contains-permutation _ _ _ before (Contains-append_right front (map f (filter q (chosen marks xs))) (f (get_or xs i d)) (mapped (filter q (chosen marks xs)) (get_or xs i d) (Contains_filter q (chosen marks xs) (get_or xs i d) passes (chosen_has marks xs i d e long within marked))))
    where
      mapped : (ys : List A) (y : A) → Contains ys y → Contains (map f ys) (f y)
      mapped ys y at =
          let count = length-map ys f in
          (at.0, omega (arith, count, at.1), get_or-map f ys at.0 y (f y) at.1 ∙ ap f at.2)

-- ---- counts of these

module _ {A B : Type 0} (q : A → Bool) (f : A → B) (p : B → Bool) where
  weight : A → ℕ
  weight x = cond (q x) (cond (p (f x)) 1 0) 0

  counted : (xs : List A) → count_by p (map f (filter q xs)) ≡ sum_by weight xs
  unfolding weight
  counted [] = refl
  counted (x ∷ xs) = by (counted xs) (q x) refl
    where
      by : (count_by p (map f (filter q xs)) ≡ sum_by weight xs) → (b : Bool) → q x ≡ b → count_by p (map f (cond (q x) (x ∷ filter q xs) (filter q xs))) ≡ sum_by weight (x ∷ xs)
      by later true is =
          let left : count_by p (map f (cond (q x) (x ∷ filter q xs) (filter q xs))) ≡ cond (p (f x)) 1 0 + count_by p (map f (filter q xs)) =
          ap (λ (b : Bool). count_by p (map f (cond b (x ∷ filter q xs) (filter q xs)))) is ∙ sum_by-cons (λ y. cond (p y) 1 0) (f x) (map f (filter q xs)) in
          let one : weight x ≡ cond (p (f x)) 1 0 = ap (λ (b : Bool). cond b (cond (p (f x)) 1 0) 0) is in
          omega (arith, left, sum_by-cons weight x xs, one, later)
      by later false is =
          let left : count_by p (map f (cond (q x) (x ∷ filter q xs) (filter q xs))) ≡ count_by p (map f (filter q xs)) = ap (λ (b : Bool). count_by p (map f (cond b (x ∷ filter q xs) (filter q xs)))) is in
          let none : weight x ≡ 0 = ap (λ (b : Bool). cond b (cond (p (f x)) 1 0) 0) is in
          omega (arith, left, sum_by-cons weight x xs, none, later)

  -- an element that passes and has no mark
  pub short_of : (marks : List Bool) (xs : List A) (i : ℕ) (d : A) (e : Bool) → length marks ≡ length xs → i < length xs → get_or marks i e ≡ false → q (get_or xs i d) ≡ true → p (f (get_or xs i d)) ≡ true
      → count_by p (map f (filter q (chosen marks xs))) < count_by p (map f (filter q xs))
  unfolding weight
  short_of marks xs i d e long within unset passes wanted =
      let less = chosen_less weight marks xs i d e long within unset in
      let one : weight (get_or xs i d) ≡ 1 = ap (λ (b : Bool). cond b (cond (p (f (get_or xs i d))) 1 0) 0) passes ∙ ap (λ (b : Bool). cond b 1 0) wanted in
      omega (arith, counted (chosen marks xs), counted xs, less, one)

  pub no_more : (marks : List Bool) (xs : List A) → count_by p (map f (filter q (chosen marks xs))) ≤ count_by p (map f (filter q xs))
  no_more marks xs = let less = chosen_sum weight marks xs in omega (arith, counted (chosen marks xs), counted xs)

-- lists of which one has fewer elements that pass a test are no other order of each other, and nor is what passes
pub not_same : {A : Type 0} (p : A → Bool) (all some met : List A) → IsPermutation some met → count_by p some < count_by p all → ¬ IsPermutation (filter p all) (filter p met)
not_same p all some met is less same =
    let first = length_permutation (filter p all) (filter p met) same in
    let second = length_permutation (filter p some) (filter p met) (filter_permutation p some met is) in
    omega (arith, first, second, length-filter p all, length-filter p some)

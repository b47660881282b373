-- Lists by a number: a stable order is one list, and groups are the same of it.
use Rattle.btr_item_list.proofs.Imports.{◌≡◌, ◌<◌, ◌≤◌, ℕ, ◌+◌, ◌==◌, Bool, true, false, cond, List, [], ◌∷◌, ◌++◌, length, filter, refl, sym, ap, subst, ◌∙◌, true≢false, nat_lt, nat_le, if◌then◌else◌, ⊎_elim, sum_by, arith, AllByRecursion, flat_map, cases_lt, nat_tests, sum_by-cons, in_group, grouped, ascending, of_number}
use Rattle.btr_item_list.proofs.Grouping.{Above, Rising, HasNoneEmpty, equal, smaller, greater, other, same_test, rising_grouped, none_below, of_number_grouped, some_grouped}

-- two groups of one number have one list
head_same : {A : Type 0} (x y : A) (xs ys : List A) → x ∷ xs ≡ y ∷ ys → x ≡ y
head_same {A} x y xs ys is = ap first is
  where
    first : List A → A
    first [] = x
    first (a ∷ more) = a

tail_same : {A : Type 0} (x y : A) (xs ys : List A) → x ∷ xs ≡ y ∷ ys → xs ≡ ys
tail_same {A} x y xs ys is = ap rest is
  where
    rest : List A → List A
    rest [] = []
    rest (a ∷ more) = more

some_none : {A : Type 0} (x : A) (xs : List A) → ¬ (x ∷ xs ≡ [])
some_none x xs is = let n = ap length is in omega (arith, n)

self : (n : ℕ) → (n == n) ≡ true
self n = grind (arith, nat_tests)

module _ {A : Type 0} (number : A → ℕ) where
  -- each number is at most those behind it
  abbrev pub Sorted : List A → Type 0
  Sorted [] = Unit {0}
  Sorted (x ∷ xs) = AllByRecursion (λ y. number x ≤ number y) xs × Sorted xs

  -- the same elements of the number of each element, in their order
  abbrev pub Same : List A → List A → Type 0
  Same xs ys = (x : A) → filter (λ y. number y == number x) xs ≡ filter (λ y. number y == number x) ys

  none_of : (n : ℕ) (xs : List A) → AllByRecursion (λ y. n < number y) xs → filter (λ y. number y == n) xs ≡ []
  none_of n [] all = refl
  none_of n (x ∷ xs) all = ap (λ (b : Bool). cond b (x ∷ filter (λ y. number y == n) xs) (filter (λ y. number y == n) xs)) (same_test (number x) n ∙ other n (number x) all.0) ∙ none_of n xs all.1

  farther : (m n : ℕ) (xs : List A) → m < n → AllByRecursion (λ y. n ≤ number y) xs → AllByRecursion (λ y. m < number y) xs
  farther m n [] less all = tt
  farther m n (x ∷ xs) less all = (omega (arith, less, all.0), farther m n xs less all.1)

  own_first : (x : A) (xs : List A) → filter (λ y. number y == number x) (x ∷ xs) ≡ x ∷ filter (λ y. number y == number x) xs
  own_first x xs = ap (λ (b : Bool). cond b (x ∷ filter (λ y. number y == number x) xs) (filter (λ y. number y == number x) xs)) (self (number x))

  -- the least number of one list is not below that of the other
  not_below : (x y : A) (xs ys : List A) → AllByRecursion (λ z. number y ≤ number z) ys → Same (x ∷ xs) (y ∷ ys) → ¬ (number x < number y)
  not_below x y xs ys all same less =
      some_none x (filter (λ z. number z == number x) xs) (sym (own_first x xs) ∙ (same x ∙ none_of (number x) (y ∷ ys) (less, farther (number x) (number y) ys less all)))

  flip : (xs ys : List A) → Same xs ys → Same ys xs
  flip xs ys same x = sym (same x)

  -- a list in order is told by the elements of each number
  pub one_order : (xs ys : List A) → Sorted xs → Sorted ys → Same xs ys → xs ≡ ys
  one_order [] [] s t same = refl
  one_order [] (y ∷ ys) s t same = absurd (some_none y (filter (λ z. number z == number y) ys) (sym (own_first y ys) ∙ sym (same y)))
  one_order (x ∷ xs) [] s t same = absurd (some_none x (filter (λ z. number z == number x) xs) (sym (own_first x xs) ∙ same x))
  one_order (x ∷ xs) (y ∷ ys) s t same =
      let low = not_below x y xs ys t.0 same in
      let high = not_below y x ys xs s.0 (flip (x ∷ xs) (y ∷ ys) same) in
      let equal_numbers : number x ≡ number y = level low high in
      let at_x : filter (λ z. number z == number x) (y ∷ ys) ≡ y ∷ filter (λ z. number z == number x) ys = ap (λ (b : Bool). cond b (y ∷ filter (λ z. number z == number x) ys) (filter (λ z. number z == number x) ys)) (ap (λ (n : ℕ). n == number x) (sym equal_numbers) ∙ self (number x)) in
      let both : x ∷ filter (λ z. number z == number x) xs ≡ y ∷ filter (λ z. number z == number x) ys = sym (own_first x xs) ∙ (same x ∙ at_x) in
      let heads : x ≡ y = head_same x y _ _ both in
      ap (λ (z : A). z ∷ xs) heads ∙ ap (λ (l : List A). y ∷ l) (one_order xs ys s.1 t.1 (λ z. rest z equal_numbers (tail_same x y _ _ both) (number x == number z) refl))
    where
      level : ¬ (number x < number y) → ¬ (number y < number x) → number x ≡ number y
      level low high = ⊎_elim (λ less. absurd (low less)) (λ more. ⊎_elim (λ less. absurd (high less)) (λ more_too. omega (arith, more, more_too)) (cases_lt (number y) (number x))) (cases_lt (number x) (number y))

      rest : (z : A) → number x ≡ number y → filter (λ w. number w == number x) xs ≡ filter (λ w. number w == number x) ys → (b : Bool) → (number x == number z) ≡ b → filter (λ w. number w == number z) xs ≡ filter (λ w. number w == number z) ys
      rest z alike own true is = subst (λ (n : ℕ). filter (λ w. number w == n) xs ≡ filter (λ w. number w == n) ys) (equal (number x) (number z) is) own
      rest z alike own false is =
          let left : filter (λ w. number w == number z) (x ∷ xs) ≡ filter (λ w. number w == number z) xs = ap (λ (b : Bool). cond b (x ∷ filter (λ w. number w == number z) xs) (filter (λ w. number w == number z) xs)) is in
          let right : filter (λ w. number w == number z) (y ∷ ys) ≡ filter (λ w. number w == number z) ys = ap (λ (b : Bool). cond b (y ∷ filter (λ w. number w == number z) ys) (filter (λ w. number w == number z) ys)) (ap (λ (n : ℕ). n == number z) (sym alike) ∙ is) in
          sym left ∙ (same z ∙ right)

  -- one element more in a list in order, before those of its number
  abbrev pub put_in : A → List A → List A
  put_in x [] = x ∷ []
  put_in x (y ∷ ys) = if nat_le (number x) (number y) then x ∷ (y ∷ ys) else y ∷ put_in x ys

  le_of : (a b : ℕ) → nat_le a b ≡ true → a ≤ b
  le_of a b is = grind (arith, nat_tests)

  gt_of : (a b : ℕ) → nat_le a b ≡ false → b < a
  gt_of a b is = grind (arith, nat_tests)

  all_more : (n m : ℕ) (ys : List A) → n ≤ m → AllByRecursion (λ z. m ≤ number z) ys → AllByRecursion (λ z. n ≤ number z) ys
  all_more n m [] less all = tt
  all_more n m (y ∷ ys) less all = (omega (arith, less, all.0), all_more n m ys less all.1)

  all_put : (n : ℕ) (x : A) (ys : List A) → n ≤ number x → AllByRecursion (λ z. n ≤ number z) ys → AllByRecursion (λ z. n ≤ number z) (put_in x ys)
  all_put n x [] less all = (less, tt)
  all_put n x (y ∷ ys) less all = by (all_put n x ys less all.1) (nat_le (number x) (number y))
    where
      by : AllByRecursion (λ z. n ≤ number z) (put_in x ys) → (b : Bool) → AllByRecursion (λ z. n ≤ number z) (if b then x ∷ (y ∷ ys) else y ∷ put_in x ys)
      by more true = (less, all)
      by more false = (all.0, more)

  sorted_put : (x : A) (ys : List A) → Sorted ys → Sorted (put_in x ys)
  sorted_put x [] s = (tt, tt)
  sorted_put x (y ∷ ys) s = by (sorted_put x ys s.1) (nat_le (number x) (number y)) refl
    where
      by : Sorted (put_in x ys) → (b : Bool) → nat_le (number x) (number y) ≡ b → Sorted (if b then x ∷ (y ∷ ys) else y ∷ put_in x ys)
      by later true is = ((le_of (number x) (number y) is, all_more (number x) (number y) ys (le_of (number x) (number y) is) s.0), s)
      by later false is = let more = gt_of (number x) (number y) is in (all_put (number y) x ys (omega (arith, more)) s.0, later)

  filter_put : (n : ℕ) (x : A) (ys : List A) → filter (λ z. number z == n) (put_in x ys) ≡ filter (λ z. number z == n) (x ∷ ys)
  filter_put n x [] = refl
  filter_put n x (y ∷ ys) = by (filter_put n x ys) (nat_le (number x) (number y)) refl
    where
      swap : (a b : Bool) (l : List A) → (a ≡ true → b ≡ false) → cond a (y ∷ cond b (x ∷ l) l) (cond b (x ∷ l) l) ≡ cond b (x ∷ cond a (y ∷ l) l) (cond a (y ∷ l) l)
      swap true true l apart = absurd (true≢false (apart refl))
      swap true false l apart = refl
      swap false true l apart = refl
      swap false false l apart = refl

      apart : number y < number x → (number y == n) ≡ true → (number x == n) ≡ false
      apart more is = let same : number y ≡ n = equal (number y) n is in same_test (number x) n ∙ other n (number x) (omega (arith, more, same))

      by : filter (λ z. number z == n) (put_in x ys) ≡ filter (λ z. number z == n) (x ∷ ys) → (b : Bool) → nat_le (number x) (number y) ≡ b → filter (λ z. number z == n) (if b then x ∷ (y ∷ ys) else y ∷ put_in x ys) ≡ filter (λ z. number z == n) (x ∷ (y ∷ ys))
      by later true is = refl
      by later false is =
          ap (λ (l : List A). cond (number y == n) (y ∷ l) l) later
          ∙ swap (number y == n) (number x == n) (filter (λ z. number z == n) ys) (apart (gt_of (number x) (number y) is))

  -- each element has the number of its group
  abbrev Own : List (ℕ × List A) → Type 0
  Own groups = AllByRecursion (λ g. AllByRecursion (λ x. number x ≡ g.0) g.1) groups

  own_in : (x : A) (groups : List (ℕ × List A)) → Own groups → Own (in_group (number x) x groups)
  own_in x [] own = ((refl, tt), tt)
  own_in x (g ∷ groups) own = by (own_in x groups own.1) (number x == g.0) (nat_lt (number x) g.0) refl
    where
      by : Own (in_group (number x) x groups) → (e l : Bool) → (number x == g.0) ≡ e → Own (if e then (number x, x ∷ g.1) ∷ groups else (if l then (number x, x ∷ []) ∷ (g ∷ groups) else g ∷ in_group (number x) x groups))
      by later true l is = ((refl, subst (λ (n : ℕ). AllByRecursion (λ y. number y ≡ n) g.1) (sym (equal (number x) g.0 is)) own.0), own.1)
      by later false true is = ((refl, tt), own)
      by later false false is = (own.0, later)

  own_grouped : (xs : List A) → Own (grouped number xs)
  own_grouped [] = tt
  own_grouped (x ∷ xs) = own_in x (grouped number xs) (own_grouped xs)

  abbrev flat : List (ℕ × List A) → List A
  flat groups = flat_map (λ g. g.1) groups

  le_true : (a b : ℕ) → a ≤ b → nat_le a b ≡ true
  le_true a b less = grind (arith, nat_tests)

  le_false : (a b : ℕ) → b < a → nat_le a b ≡ false
  le_false a b less = grind (arith, nat_tests)

  -- before a group that is not below
  put_before : (n : ℕ) (x : A) (ys rest : List A) → number x ≤ n → 0 < length ys → AllByRecursion (λ y. number y ≡ n) ys → put_in x (ys ++ rest) ≡ x ∷ (ys ++ rest)
  put_before n x [] rest less some all = absurd (omega (arith, some))
  put_before n x (y ∷ ys) rest less some all =
      ap (λ (b : Bool). if b then x ∷ (y ∷ (ys ++ rest)) else y ∷ put_in x (ys ++ rest)) (le_true (number x) (number y) (omega (arith, less, all.0)))

  -- behind one that is
  put_behind : (n : ℕ) (x : A) (ys rest : List A) → n < number x → AllByRecursion (λ y. number y ≡ n) ys → put_in x (ys ++ rest) ≡ ys ++ put_in x rest
  put_behind n x [] rest less all = refl
  put_behind n x (y ∷ ys) rest less all =
      ap (λ (b : Bool). if b then x ∷ (y ∷ (ys ++ rest)) else y ∷ put_in x (ys ++ rest)) (le_false (number x) (number y) (omega (arith, less, all.0)))
      ∙ ap (λ (l : List A). y ∷ l) (put_behind n x ys rest less all.1)

  flat_in : (x : A) (groups : List (ℕ × List A)) → Own groups → HasNoneEmpty groups → flat (in_group (number x) x groups) ≡ put_in x (flat groups)
  flat_in x [] own some = refl
  flat_in x (g ∷ groups) own some = by (flat_in x groups own.1 some.1) (number x == g.0) (nat_lt (number x) g.0) refl refl
    where
      by : flat (in_group (number x) x groups) ≡ put_in x (flat groups) → (e l : Bool) → (number x == g.0) ≡ e → nat_lt (number x) g.0 ≡ l → flat (if e then (number x, x ∷ g.1) ∷ groups else (if l then (number x, x ∷ []) ∷ (g ∷ groups) else g ∷ in_group (number x) x groups)) ≡ put_in x (g.1 ++ flat groups)
      by later true l is less = let same = equal (number x) g.0 is in sym (put_before g.0 x g.1 (flat groups) (omega (arith, same)) some.0 own.0)
      by later false true is less = let low = smaller (number x) g.0 less in sym (put_before g.0 x g.1 (flat groups) (omega (arith, low)) some.0 own.0)
      by later false false is less =
          ap (λ (l : List A). g.1 ++ l) later ∙ sym (put_behind g.0 x g.1 (flat groups) (greater (number x) g.0 is less) own.0)

  -- the elements by their numbers, one put in after the other
  pub ascending_put : (x : A) (xs : List A) → ascending number (x ∷ xs) ≡ put_in x (ascending number xs)
  ascending_put x xs = flat_in x (grouped number xs) (own_grouped xs) (some_grouped number xs)

  pub ascending_sorted : (xs : List A) → Sorted (ascending number xs)
  ascending_sorted [] = tt
  ascending_sorted (x ∷ xs) = subst Sorted (sym (ascending_put x xs)) (sorted_put x (ascending number xs) (ascending_sorted xs))

  pub ascending_filter : (n : ℕ) (xs : List A) → filter (λ z. number z == n) (ascending number xs) ≡ filter (λ z. number z == n) xs
  ascending_filter n [] = refl
  ascending_filter n (x ∷ xs) =
      ap (filter (λ z. number z == n)) (ascending_put x xs) ∙ (filter_put n x (ascending number xs) ∙ ap (λ (l : List A). cond (number x == n) (x ∷ l) l) (ascending_filter n xs))

  each_put : (P : A → Type 0) (x : A) (ys : List A) → P x → AllByRecursion P ys → AllByRecursion P (put_in x ys)
  each_put P x [] own all = (own, tt)
  each_put P x (y ∷ ys) own all = by (each_put P x ys own all.1) (nat_le (number x) (number y))
    where
      by : AllByRecursion P (put_in x ys) → (b : Bool) → AllByRecursion P (if b then x ∷ (y ∷ ys) else y ∷ put_in x ys)
      by later true = (own, all)
      by later false = (all.0, later)

  -- what holds of all elements
  pub ascending_all : (P : A → Type 0) (xs : List A) → AllByRecursion P xs → AllByRecursion P (ascending number xs)
  ascending_all P [] all = tt
  ascending_all P (x ∷ xs) all = subst (AllByRecursion P) (sym (ascending_put x xs)) (each_put P x (ascending number xs) all.0 (ascending_all P xs all.1))

  sum_put : (f : A → ℕ) (x : A) (ys : List A) → sum_by f (put_in x ys) ≡ f x + sum_by f ys
  sum_put f x [] = sum_by-cons f x []
  sum_put f x (y ∷ ys) = by (sum_put f x ys) (nat_le (number x) (number y))
    where
      by : sum_by f (put_in x ys) ≡ f x + sum_by f ys → (b : Bool) → sum_by f (if b then x ∷ (y ∷ ys) else y ∷ put_in x ys) ≡ f x + sum_by f (y ∷ ys)
      by later true = sum_by-cons f x (y ∷ ys)
      by later false =
          let first = sum_by-cons f y (put_in x ys) in
          let second = sum_by-cons f y ys in
          omega (arith, first, second, later)

  -- a sum over all elements
  pub ascending_sum : (f : A → ℕ) (xs : List A) → sum_by f (ascending number xs) ≡ sum_by f xs
  ascending_sum f [] = refl
  ascending_sum f (x ∷ xs) =
      let put = ap (sum_by f) (ascending_put x xs) ∙ sum_put f x (ascending number xs) in
      let rest = ascending_sum f xs in
      let whole = sum_by-cons f x xs in
      omega (arith, put, rest, whole)

  -- a list in order with the same elements of each number is this one
  pub ascending_is : (xs ys : List A) → Sorted ys → Same ys xs → ys ≡ ascending number xs
  ascending_is xs ys sorted same = one_order ys (ascending number xs) sorted (ascending_sorted xs) (λ z. same z ∙ sym (ascending_filter (number z) xs))

  pub ascending_of_sorted : (xs : List A) → Sorted xs → ascending number xs ≡ xs
  ascending_of_sorted xs sorted = sym (ascending_is xs xs sorted (λ z. refl))

  -- a part by another test is in order too
  all_kept : (p : A → Bool) (n : ℕ) (xs : List A) → AllByRecursion (λ z. n ≤ number z) xs → AllByRecursion (λ z. n ≤ number z) (filter p xs)
  all_kept p n [] all = tt
  all_kept p n (x ∷ xs) all = by (all_kept p n xs all.1) (p x)
    where
      by : AllByRecursion (λ z. n ≤ number z) (filter p xs) → (b : Bool) → AllByRecursion (λ z. n ≤ number z) (cond b (x ∷ filter p xs) (filter p xs))
      by later true = (all.0, later)
      by later false = later

  sorted_kept : (p : A → Bool) (xs : List A) → Sorted xs → Sorted (filter p xs)
  sorted_kept p [] s = tt
  sorted_kept p (x ∷ xs) s = by (sorted_kept p xs s.1) (p x)
    where
      by : Sorted (filter p xs) → (b : Bool) → Sorted (cond b (x ∷ filter p xs) (filter p xs))
      by later true = (all_kept p (number x) xs s.0, later)
      by later false = later

  filters_swap : (p q : A → Bool) (xs : List A) → filter p (filter q xs) ≡ filter q (filter p xs)
  filters_swap p q [] = refl
  filters_swap p q (x ∷ xs) = by (filters_swap p q xs) (p x) (q x) refl refl
    where
      by : filter p (filter q xs) ≡ filter q (filter p xs) → (a b : Bool) → p x ≡ a → q x ≡ b → filter p (cond b (x ∷ filter q xs) (filter q xs)) ≡ filter q (cond a (x ∷ filter p xs) (filter p xs))
      by later true true is_p is_q = ap (λ (c : Bool). cond c (x ∷ filter p (filter q xs)) (filter p (filter q xs))) is_p ∙ (ap (λ (l : List A). x ∷ l) later ∙ sym (ap (λ (c : Bool). cond c (x ∷ filter q (filter p xs)) (filter q (filter p xs))) is_q))
      by later true false is_p is_q = later ∙ sym (ap (λ (c : Bool). cond c (x ∷ filter q (filter p xs)) (filter q (filter p xs))) is_q)
      by later false true is_p is_q = ap (λ (c : Bool). cond c (x ∷ filter p (filter q xs)) (filter p (filter q xs))) is_p ∙ later
      by later false false is_p is_q = later

  pub ascending_kept : (p : A → Bool) (xs : List A) → filter p (ascending number xs) ≡ ascending number (filter p xs)
  ascending_kept p xs =
      ascending_is (filter p xs) (filter p (ascending number xs)) (sorted_kept p (ascending number xs) (ascending_sorted xs))
      (λ z. filters_swap (λ y. number y == number z) p (ascending number xs) ∙ (ap (filter p) (ascending_filter (number z) xs) ∙ filters_swap p (λ y. number y == number z) xs))

-- groups are told by the elements of each number
one_grouping : {A : Type 0} (gs hs : List (ℕ × List A)) → Rising gs → Rising hs → HasNoneEmpty gs → HasNoneEmpty hs → ((n : ℕ) → of_number n gs ≡ of_number n hs) → gs ≡ hs
one_grouping [] [] r t s u same = refl
one_grouping {A} [] (h ∷ hs) r t s u same = absurd (omega (arith, u.0, empty))
  where
    empty : length h.1 ≡ 0
    empty = sym (ap length (same h.0 ∙ ap (λ (b : Bool). cond b h.1 (of_number h.0 hs)) (self h.0)))
one_grouping {A} (g ∷ gs) [] r t s u same = absurd (omega (arith, s.0, empty))
  where
    empty : length g.1 ≡ 0
    empty = ap length (sym (ap (λ (b : Bool). cond b g.1 (of_number g.0 gs)) (self g.0)) ∙ same g.0)
one_grouping {A} (g ∷ gs) (h ∷ hs) r t s u same =
    let level : g.0 ≡ h.0 = ⊎_elim (λ less. absurd (below less)) (λ more. ⊎_elim (λ less. absurd (above less)) (λ more_too. omega (arith, more, more_too)) (cases_lt h.0 g.0)) (cases_lt g.0 h.0) in
    let first : g.1 ≡ h.1 = sym (ap (λ (b : Bool). cond b g.1 (of_number g.0 gs)) (self g.0)) ∙ (same g.0 ∙ ap (λ (b : Bool). cond b h.1 (of_number g.0 hs)) (ap (λ (n : ℕ). g.0 == n) (sym level) ∙ self g.0)) in
    ap (λ (n : ℕ). (n, g.1) ∷ gs) level ∙ (ap (λ (l : List A). (h.0, l) ∷ gs) first ∙ ap (λ (l : List (ℕ × List A)). h ∷ l) (one_grouping gs hs r.1 t.1 s.1 u.1 (λ n. rest level n (n == g.0) refl)))
  where
    below : ¬ (g.0 < h.0)
    below less =
        let none : g.1 ≡ [] = sym (ap (λ (b : Bool). cond b g.1 (of_number g.0 gs)) (self g.0)) ∙ (same g.0 ∙ (ap (λ (b : Bool). cond b h.1 (of_number g.0 hs)) (other g.0 h.0 less) ∙ none_below g.0 hs (lower g.0 h.0 hs less t.0))) in
        omega (arith, s.0, ap length none)
      where
        lower : (m n : ℕ) (groups : List (ℕ × List A)) → m < n → Above n groups → Above m groups
        lower m n [] less above = tt
        lower m n (g ∷ groups) less above = (omega (arith, less, above.0), lower m n groups less above.1)

    above : ¬ (h.0 < g.0)
    above less =
        let none : h.1 ≡ [] = sym (ap (λ (b : Bool). cond b h.1 (of_number h.0 hs)) (self h.0)) ∙ (sym (same h.0) ∙ (ap (λ (b : Bool). cond b g.1 (of_number h.0 gs)) (other h.0 g.0 less) ∙ none_below h.0 gs (lower h.0 g.0 gs less r.0))) in
        omega (arith, u.0, ap length none)
      where
        lower : (m n : ℕ) (groups : List (ℕ × List A)) → m < n → Above n groups → Above m groups
        lower m n [] less above = tt
        lower m n (g ∷ groups) less above = (omega (arith, less, above.0), lower m n groups less above.1)

    rest : g.0 ≡ h.0 → (n : ℕ) (b : Bool) → (n == g.0) ≡ b → of_number n gs ≡ of_number n hs
    rest level n true is =
        let at : n ≡ g.0 = equal n g.0 is in
        subst (λ (m : ℕ). of_number m gs ≡ []) (sym at) (none_below g.0 gs r.0) ∙ sym (subst (λ (m : ℕ). of_number m hs ≡ []) (sym (at ∙ level)) (none_below h.0 hs t.0))
    rest level n false is =
        sym (ap (λ (b : Bool). cond b g.1 (of_number n gs)) is) ∙ (same n ∙ ap (λ (b : Bool). cond b h.1 (of_number n hs)) (ap (λ (m : ℕ). n == m) (sym level) ∙ is))

-- groups of a list are those of the list in order
pub grouped_ascending : {A : Type 0} (number : A → ℕ) (xs : List A) → grouped number (ascending number xs) ≡ grouped number xs
grouped_ascending number xs =
    one_grouping (grouped number (ascending number xs)) (grouped number xs) (rising_grouped number (ascending number xs)) (rising_grouped number xs) (some_grouped number (ascending number xs)) (some_grouped number xs)
    (λ n. of_number_grouped number n (ascending number xs) ∙ (ascending_filter number n xs ∙ sym (of_number_grouped number n xs)))

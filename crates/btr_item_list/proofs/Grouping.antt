-- Groups of a list are groups.
use Rattle.btr_item_list.proofs.Imports.{◌≡◌, ◌<◌, ℕ, ◌==◌, Bool, true, false, cond, List, [], ◌∷◌, length, filter, refl, sym, ap, subst, ◌∙◌, nat_lt, AllPairs, arith, AllByRecursion, All-from_recursion, AllPairs-cons, nat_tests, AreGroups, in_group, grouped, of_number}

-- each group is above a number
abbrev pub Above : {A : Type 0} → ℕ → List (ℕ × List A) → Type 0
Above n groups = AllByRecursion (λ g. n < g.0) groups

abbrev pub Rising : {A : Type 0} → List (ℕ × List A) → Type 0
Rising [] = Unit {0}
Rising (g ∷ groups) = Above g.0 groups × Rising groups

abbrev pub HasNoneEmpty : {A : Type 0} → List (ℕ × List A) → Type 0
HasNoneEmpty groups = AllByRecursion (λ g. 0 < length g.1) groups

pub equal : (a b : ℕ) → (a == b) ≡ true → a ≡ b
equal a b is = grind (arith, nat_tests)

pub smaller : (a b : ℕ) → nat_lt a b ≡ true → a < b
smaller a b is = grind (arith, nat_tests)

pub greater : (a b : ℕ) → (a == b) ≡ false → nat_lt a b ≡ false → b < a
greater a b apart not_less = grind (arith, nat_tests)

pub other : (a b : ℕ) → a < b → (a == b) ≡ false
other a b less = grind (arith, nat_tests)

pub same_test : (a b : ℕ) → (a == b) ≡ (b == a)
same_test a b = grind (arith, nat_tests)

lower : {A : Type 0} (m n : ℕ) (groups : List (ℕ × List A)) → m < n → Above n groups → Above m groups
lower m n [] less above = tt
lower m n (g ∷ groups) less above = (omega (arith, less, above.0), lower m n groups less above.1)

-- groups with one element more, by the two tests
abbrev made : {A : Type 0} → Bool → Bool → ℕ → A → ℕ × List A → List (ℕ × List A) → List (ℕ × List A) → List (ℕ × List A)
made e l n x g groups rest = cond e ((n, x ∷ g.1) ∷ groups) (cond l ((n, x ∷ []) ∷ (g ∷ groups)) (g ∷ rest))

above_made : {A : Type 0} (m n : ℕ) (x : A) (g : ℕ × List A) (groups rest : List (ℕ × List A)) (e l : Bool) → m < n → Above m (g ∷ groups) → Above m rest → Above m (made e l n x g groups rest)
above_made m n x g groups rest true l less above later = (less, above.1)
above_made m n x g groups rest false true less above later = (less, above)
above_made m n x g groups rest false false less above later = (above.0, later)

pub above_in : {A : Type 0} (m n : ℕ) (x : A) (groups : List (ℕ × List A)) → m < n → Above m groups → Above m (in_group n x groups)
above_in m n x [] less above = (less, tt)
above_in m n x (g ∷ groups) less above = above_made m n x g groups (in_group n x groups) (n == g.0) (nat_lt n g.0) less above (above_in m n x groups less above.1)

rising_made : {A : Type 0} (n : ℕ) (x : A) (g : ℕ × List A) (groups rest : List (ℕ × List A)) (e l : Bool) → (n == g.0) ≡ e → nat_lt n g.0 ≡ l → Rising (g ∷ groups) → (g.0 < n → Above g.0 rest) → Rising rest → Rising (made e l n x g groups rest)
rising_made n x g groups rest true l is less rises above later = (subst (λ (m : ℕ). Above m groups) (sym (equal n g.0 is)) rises.0, rises.1)
rising_made n x g groups rest false true is less rises above later = ((smaller n g.0 less, lower n g.0 groups (smaller n g.0 less) rises.0), rises)
rising_made n x g groups rest false false is less rises above later = (above (greater n g.0 is less), later)

rising_in : {A : Type 0} (n : ℕ) (x : A) (groups : List (ℕ × List A)) → Rising groups → Rising (in_group n x groups)
rising_in n x [] rises = (tt, tt)
rising_in n x (g ∷ groups) rises = rising_made n x g groups (in_group n x groups) (n == g.0) (nat_lt n g.0) refl refl rises (λ more. above_in g.0 n x groups more rises.0) (rising_in n x groups rises.1)

pub rising_grouped : {A : Type 0} (number : A → ℕ) (xs : List A) → Rising (grouped number xs)
rising_grouped number [] = tt
rising_grouped number (x ∷ xs) = rising_in (number x) x (grouped number xs) (rising_grouped number xs)

-- no group is of a number that is below all
pub none_below : {A : Type 0} (n : ℕ) (groups : List (ℕ × List A)) → Above n groups → of_number n groups ≡ []
none_below n [] above = refl
none_below n (g ∷ groups) above = ap (λ (b : Bool). cond b g.1 (of_number n groups)) (other n g.0 above.0) ∙ none_below n groups above.1

module _ {A : Type 0} (k n : ℕ) (x : A) where
  abbrev with_one : List A → List A
  with_one ys = cond (n == k) (x ∷ ys) ys

  one_more : (ys : List A) (b : Bool) → (n == k) ≡ b → with_one ys ≡ cond b (x ∷ ys) ys
  one_more ys b is = ap (λ (c : Bool). cond c (x ∷ ys) ys) is

  in_none : cond (k == n) (x ∷ []) [] ≡ with_one []
  in_none = ap (λ (c : Bool). cond c (x ∷ []) []) (same_test k n)

  joins : (g : ℕ × List A) (groups : List (ℕ × List A)) (b : Bool) → n ≡ g.0 → (n == k) ≡ b → of_number k ((n, x ∷ g.1) ∷ groups) ≡ with_one (of_number k (g ∷ groups))
  joins g groups b n_is is =
      ap (λ (c : Bool). cond c (x ∷ g.1) (of_number k groups)) (same_test k n ∙ is)
      ∙ (choose b
      ∙ sym (one_more (of_number k (g ∷ groups)) b is ∙ ap (λ (c : Bool). cond b (x ∷ cond c g.1 (of_number k groups)) (cond c g.1 (of_number k groups))) (ap (λ (m : ℕ). k == m) (sym n_is) ∙ (same_test k n ∙ is))))
    where
      choose : (c : Bool) → cond c (x ∷ g.1) (of_number k groups) ≡ cond c (x ∷ cond c g.1 (of_number k groups)) (cond c g.1 (of_number k groups))
      choose true = refl
      choose false = refl

  fresh : (groups : List (ℕ × List A)) (b : Bool) → Above n groups → (n == k) ≡ b → of_number k ((n, x ∷ []) ∷ groups) ≡ with_one (of_number k groups)
  fresh groups true above is =
      let none : of_number k groups ≡ [] = subst (λ (m : ℕ). of_number m groups ≡ []) (equal n k is) (none_below n groups above) in
      ap (λ (c : Bool). cond c (x ∷ []) (of_number k groups)) (same_test k n ∙ is)
      ∙ (ap (λ (t : List A). x ∷ t) (sym none) ∙ sym (one_more (of_number k groups) true is))
  fresh groups false above is =
      ap (λ (c : Bool). cond c (x ∷ []) (of_number k groups)) (same_test k n ∙ is) ∙ sym (one_more (of_number k groups) false is)

  later : (g : ℕ × List A) (groups rest : List (ℕ × List A)) (b : Bool) → (n == g.0) ≡ false → (k == g.0) ≡ b → of_number k rest ≡ with_one (of_number k groups) → of_number k (g ∷ rest) ≡ with_one (of_number k (g ∷ groups))
  later g groups rest true apart is more =
      let not_one : (n == k) ≡ false = ap (λ (m : ℕ). n == m) (equal k g.0 is) ∙ apart in
      ap (λ (c : Bool). cond c g.1 (of_number k rest)) is
      ∙ sym (one_more (of_number k (g ∷ groups)) false not_one ∙ ap (λ (c : Bool). cond c g.1 (of_number k groups)) is)
  later g groups rest false apart is more =
      ap (λ (c : Bool). cond c g.1 (of_number k rest)) is
      ∙ (more ∙ sym (ap (λ (c : Bool). with_one (cond c g.1 (of_number k groups))) is))

  in_made : (g : ℕ × List A) (groups rest : List (ℕ × List A)) (e l : Bool) → (n == g.0) ≡ e → nat_lt n g.0 ≡ l → Rising (g ∷ groups) → of_number k rest ≡ with_one (of_number k groups)
      → of_number k (made e l n x g groups rest) ≡ with_one (of_number k (g ∷ groups))
  in_made g groups rest true l is less rises more = joins g groups (n == k) (equal n g.0 is) refl
  in_made g groups rest false true is less rises more = fresh (g ∷ groups) (n == k) (smaller n g.0 less, lower n g.0 groups (smaller n g.0 less) rises.0) refl
  in_made g groups rest false false is less rises more = later g groups rest (k == g.0) is refl more

  of_number_in : (groups : List (ℕ × List A)) → Rising groups → of_number k (in_group n x groups) ≡ with_one (of_number k groups)
  of_number_in [] rises = in_none
  of_number_in (g ∷ groups) rises = in_made g groups (in_group n x groups) (n == g.0) (nat_lt n g.0) refl refl rises (of_number_in groups rises.1)

pub of_number_grouped : {A : Type 0} (number : A → ℕ) (k : ℕ) (xs : List A) → of_number k (grouped number xs) ≡ filter (λ x. number x == k) xs
of_number_grouped number k [] = refl
of_number_grouped {A} number k (x ∷ xs) =
    of_number_in k (number x) x (grouped number xs) (rising_grouped number xs)
    ∙ ap (λ (rest : List A). cond (number x == k) (x ∷ rest) rest) (of_number_grouped number k xs)

some_made : {A : Type 0} (n : ℕ) (x : A) (g : ℕ × List A) (groups rest : List (ℕ × List A)) (e l : Bool) → HasNoneEmpty (g ∷ groups) → HasNoneEmpty rest → HasNoneEmpty (made e l n x g groups rest)
some_made n x g groups rest true l some later = (omega arith, some.1)
some_made n x g groups rest false true some later = (omega arith, some)
some_made n x g groups rest false false some later = (some.0, later)

some_in : {A : Type 0} (n : ℕ) (x : A) (groups : List (ℕ × List A)) → HasNoneEmpty groups → HasNoneEmpty (in_group n x groups)
some_in n x [] some = (omega arith, tt)
some_in n x (g ∷ groups) some = some_made n x g groups (in_group n x groups) (n == g.0) (nat_lt n g.0) some (some_in n x groups some.1)

pub some_grouped : {A : Type 0} (number : A → ℕ) (xs : List A) → HasNoneEmpty (grouped number xs)
some_grouped number [] = tt
some_grouped number (x ∷ xs) = some_in (number x) x (grouped number xs) (some_grouped number xs)

pairs_of : {A : Type 0} (groups : List (ℕ × List A)) → Rising groups → AllPairs (λ (g h : ℕ × List A). g.0 < h.0) groups
pairs_of [] rises = λ i j d less within. absurd (omega (arith, within))
pairs_of {A} (g ∷ groups) rises = AllPairs-cons (λ (g h : ℕ × List A). g.0 < h.0) g groups (All-from_recursion (λ (h : ℕ × List A). g.0 < h.0) groups rises.0) (pairs_of groups rises.1)

-- Grouping gives groups.
pub groups_are_groups : {A : Type 0} (number : A → ℕ) (xs : List A) → AreGroups number xs (grouped number xs)
groups_are_groups {A} number xs = record {
  ascend = pairs_of (grouped number xs) (rising_grouped number xs);
  each = λ n. of_number_grouped number n xs;
  some = All-from_recursion (λ (g : ℕ × List A). 0 < length g.1) (grouped number xs) (some_grouped number xs);
}

-- Sums over lists that a number divides.
use Rattle.convert_trees_laws.proofs.Imports.{◌≡◌, ◌≤◌, ◌<◌, ℕ, ◌+◌, ◌==◌, nat_lt, Bool, true, false, cond, List, [], ◌∷◌, filter, sum_by, refl, ap, if◌then◌else◌, arith, AllByRecursion, nat_tests, sum_by-append, sum_by-cons, ITEM_SIZE, sum_split, sum_zero, grouped, in_group, other, sum_fewer}
use Rattle.std.proofs.Common.{flat_map}
use Rattle.convert_trees_laws.proofs.Rising.{Climb}
use Rattle.convert_trees_laws.proofs.Short.{sum_kept}

pub sum_flat : {A B : Type 0} (f : A → List B) (w : B → ℕ) (xs : List A) → sum_by w (flat_map f xs) ≡ sum_by (λ x. sum_by w (f x)) xs
sum_flat f w [] = refl
sum_flat f w (x ∷ xs) =
    let both = sum_by-append w (f x) (flat_map f xs) in
    let later = sum_flat f w xs in
    let whole = sum_by-cons (λ y. sum_by w (f y)) x xs in
    omega (arith, both, later, whole)

-- what each element takes by itself is no less than what the groups take, where each of them takes so much more than its elements
module _ {A : Type 0} (number : A → ℕ) (w : A → ℕ) where
  abbrev group_weight : ℕ × List A → ℕ
  group_weight g = ITEM_SIZE + sum_by w g.1

  in_group_weighs : (n : ℕ) (x : A) (groups : List (ℕ × List A)) → sum_by group_weight (in_group n x groups) ≤ sum_by group_weight groups + (ITEM_SIZE + w x)
  in_group_weighs n x [] =
      let one = sum_by-cons group_weight (n, x ∷ []) [] in
      let own = sum_by-cons w x [] in
      omega (arith, one, own)
  in_group_weighs n x (g ∷ groups) = by (in_group_weighs n x groups) (n == g.0) (nat_lt n g.0)
    where
      by : sum_by group_weight (in_group n x groups) ≤ sum_by group_weight groups + (ITEM_SIZE + w x) → (e l : Bool)
          → sum_by group_weight (if e then (n, x ∷ g.1) ∷ groups else (if l then (n, x ∷ []) ∷ (g ∷ groups) else g ∷ in_group n x groups)) ≤ sum_by group_weight (g ∷ groups) + (ITEM_SIZE + w x)
      by later true l =
          let new = sum_by-cons group_weight (n, x ∷ g.1) groups in
          let old = sum_by-cons group_weight g groups in
          let own = sum_by-cons w x g.1 in
          omega (arith, new, old, own)
      by later false true =
          let new = sum_by-cons group_weight (n, x ∷ []) (g ∷ groups) in
          let own = sum_by-cons w x [] in
          omega (arith, new, own)
      by later false false =
          let new = sum_by-cons group_weight g (in_group n x groups) in
          let old = sum_by-cons group_weight g groups in
          omega (arith, new, old, later)

  pub groups_weigh : (xs : List A) → sum_by group_weight (grouped number xs) ≤ sum_by (λ x. ITEM_SIZE + w x) xs
  groups_weigh [] = omega arith
  groups_weigh (x ∷ xs) =
      let put = in_group_weighs (number x) x (grouped number xs) in
      let later = groups_weigh xs in
      let whole = sum_by-cons (λ y. ITEM_SIZE + w y) x xs in
      omega (arith, put, later, whole)

-- What stands under numbers that rise is, together, no more than all there is.
module _ {K : Type 0} (f : K → ℕ) where
  none_weighs : (n v : ℕ) (ks : List K) → AllByRecursion (λ k. n < f k) ks → sum_by (λ k. cond (n == f k) v 0) ks ≡ 0
  none_weighs n v [] above = refl
  none_weighs n v (k ∷ ks) above =
      let later = none_weighs n v ks above.1 in
      let whole = sum_by-cons (λ j. cond (n == f j) v 0) k ks in
      let own : ◌≡◌ {A = ℕ} (cond (n == f k) v 0) 0 = ap (λ (b : Bool). cond b v 0) (other n (f k) above.0) in
      omega (arith, later, whole, own)

  equal : (a b : ℕ) → (a == b) ≡ true → a ≡ b
  equal a b is = grind (arith, nat_tests)

  pub one_weighs : (n v : ℕ) (ks : List K) → Climb f ks → sum_by (λ k. cond (n == f k) v 0) ks ≤ v
  one_weighs n v [] up = omega arith
  one_weighs n v (k ∷ ks) up = by (n == f k) refl (one_weighs n v ks up.1)
    where
      by : (b : Bool) → (n == f k) ≡ b → sum_by (λ j. cond (n == f j) v 0) ks ≤ v → sum_by (λ j. cond (n == f j) v 0) (k ∷ ks) ≤ v
      by true is later =
          let same = equal n (f k) is in
          let none = none_weighs (f k) v ks up.0 in
          let alike : sum_by (λ j. cond (n == f j) v 0) ks ≡ sum_by (λ j. cond (f k == f j) v 0) ks = ap (λ (m : ℕ). sum_by (λ j. cond (m == f j) v 0) ks) same in
          let whole = sum_by-cons (λ j. cond (n == f j) v 0) k ks in
          let own : ◌≡◌ {A = ℕ} (cond (n == f k) v 0) v = ap (λ (b : Bool). cond b v 0) is in
          omega (arith, none, alike, whole, own)
      by false is later =
          let whole = sum_by-cons (λ j. cond (n == f j) v 0) k ks in
          let own : ◌≡◌ {A = ℕ} (cond (n == f k) v 0) 0 = ap (λ (b : Bool). cond b v 0) is in
          omega (arith, later, whole, own)

  pub all_weigh : {X : Type 0} (m w : X → ℕ) (xs : List X) (ks : List K) → Climb f ks → sum_by (λ k. sum_by (λ x. cond (m x == f k) (w x) 0) xs) ks ≤ sum_by w xs
  all_weigh m w [] ks up = let none = sum_zero (λ (k : K). 0) ks (λ k. refl) in omega (arith, none)
  all_weigh m w (x ∷ xs) ks up =
      let split = sum_split (λ k. cond (m x == f k) (w x) 0) (λ k. sum_by (λ y. cond (m y == f k) (w y) 0) xs) (λ k. sum_by (λ y. cond (m y == f k) (w y) 0) (x ∷ xs)) ks (λ k. sum_by-cons (λ y. cond (m y == f k) (w y) 0) x xs) in
      let first = one_weighs (m x) (w x) ks up in
      let later = all_weigh m w xs ks up in
      let whole = sum_by-cons w x xs in
      omega (arith, split, first, later, whole)

-- the elements of a test, by another that they pass too
pub kept_weigh : {A : Type 0} (p q : A → Bool) (w : A → ℕ) (xs : List A) → ((x : A) → p x ≡ true → q x ≡ true) → sum_by w (filter p xs) ≤ sum_by (λ x. cond (q x) (w x) 0) xs
kept_weigh {A} p q w xs so =
    let kept = sum_kept p w xs in
    let more = sum_fewer (λ x. cond (p x) (w x) 0) (λ x. cond (q x) (w x) 0) xs (λ x. by (p x) (q x) (w x) (so x)) in
    omega (arith, kept, more)
  where
    by : (b c : Bool) (v : ℕ) → (b ≡ true → c ≡ true) → cond b v 0 ≤ cond c v 0
    by true true v h = omega arith
    by true false v h = let never : ◌≡◌ {A = Bool} false true = h refl in absurd (cc)
    by false c v h = omega arith

-- those that pass a test and those that don't
pub parts_weigh : {A : Type 0} (p q : A → Bool) (u v w : A → ℕ) (xs : List A) → ((x : A) → cond (p x) (u x) 0 + cond (q x) (v x) 0 ≤ w x) → sum_by u (filter p xs) + sum_by v (filter q xs) ≤ sum_by w xs
parts_weigh p q u v w xs each =
    let first = sum_kept p u xs in
    let second = sum_kept q v xs in
    let both = sum_split (λ x. cond (p x) (u x) 0) (λ x. cond (q x) (v x) 0) (λ x. cond (p x) (u x) 0 + cond (q x) (v x) 0) xs (λ x. refl) in
    let less = sum_fewer (λ x. cond (p x) (u x) 0 + cond (q x) (v x) 0) w xs each in
    omega (arith, first, second, both, less)

-- What stands at the places of elements that pass a test.
use Rattle.btr_item_list.proofs.Imports.{◌≡◌, ◌<◌, ◌≤◌, ℕ, zero, suc, ◌+◌, Bool, true, false, cond, List, [], ◌∷◌, ◌++◌, length, filter, map, take, get_or, Some, None, Option, AllPairs, refl, sym, ap, ◌∙◌, nat_lt, count_by, if◌then◌else◌, arith, AllByRecursion, slice_get, nat_tests, sum_by-cons, All-from_recursion, AllPairs-cons}
use Rattle.btr_item_list.specs.Places.{places_from}

module _ {A : Type 0} (p : A → Bool) where
  -- all places are behind the first
  pub places_high : (n : ℕ) (xs : List A) → AllByRecursion (λ k. n ≤ k) (places_from p n xs)
  places_high n [] = tt
  places_high n (x ∷ xs) = by (raise (n + 1) (places_from p (n + 1) xs) (places_high (n + 1) xs)) (p x)
    where
      raise : (m : ℕ) (ks : List ℕ) → AllByRecursion (λ k. m ≤ k) ks → n + 1 ≤ m → AllByRecursion (λ k. n ≤ k) ks
      raise m [] all low = tt
      raise m (k ∷ ks) all low = (omega (arith, all.0, low), raise m ks all.1 low)

      by : (n + 1 ≤ n + 1 → AllByRecursion (λ k. n ≤ k) (places_from p (n + 1) xs)) → (b : Bool) → AllByRecursion (λ k. n ≤ k) (if b then n ∷ places_from p (n + 1) xs else places_from p (n + 1) xs)
      by later true = (omega arith, later (omega arith))
      by later false = later (omega arith)

  -- as many as pass
  pub places_count : (n : ℕ) (xs : List A) → length (places_from p n xs) ≡ length (filter p xs)
  places_count n [] = refl
  places_count n (x ∷ xs) = by (places_count (n + 1) xs) (p x)
    where
      by : length (places_from p (n + 1) xs) ≡ length (filter p xs) → (b : Bool) → length (if b then n ∷ places_from p (n + 1) xs else places_from p (n + 1) xs) ≡ length (cond b (x ∷ filter p xs) (filter p xs))
      by later true = omega (arith, later)
      by later false = later

  -- what stands there
  pub places_hold : (n : ℕ) (all xs : List A) → ((k : ℕ) → slice_get all (n + k) ≡ slice_get xs k) → map (slice_get all) (places_from p n xs) ≡ map (λ (x : A). Some x) (filter p xs)
  places_hold n all [] at = refl
  places_hold n all (x ∷ xs) at =
      by (places_hold (n + 1) all xs (λ k. let same : n + 1 + k ≡ n + suc k = omega arith in ap (slice_get all) same ∙ at (suc k))) (p x)
    where
      first : slice_get all n ≡ Some x
      first = let same : n ≡ n + 0 = omega arith in ap (slice_get all) same ∙ at 0

      by : map (slice_get all) (places_from p (n + 1) xs) ≡ map (λ (y : A). Some y) (filter p xs) → (b : Bool) → map (slice_get all) (if b then n ∷ places_from p (n + 1) xs else places_from p (n + 1) xs) ≡ map (λ (y : A). Some y) (cond b (x ∷ filter p xs) (filter p xs))
      by later true = ap (λ o. o ∷ map (slice_get all) (places_from p (n + 1) xs)) first ∙ ap (λ l. Some x ∷ l) later
      by later false = later

  -- how many come before one
  pub places_before : (n m : ℕ) (xs : List A) → count_by (λ k. nat_lt k (n + m)) (places_from p n xs) ≡ count_by p (take m xs)
  places_before n zero xs = none (places_from p n xs) (places_high n xs)
    where
      zero_in : n + 0 ≡ n
      zero_in = omega arith

      not_lt : (k : ℕ) → n ≤ k → nat_lt k (n + 0) ≡ false
      not_lt k le = grind (arith, nat_tests)

      none : (ks : List ℕ) → AllByRecursion (λ k. n ≤ k) ks → count_by (λ k. nat_lt k (n + 0)) ks ≡ 0
      none [] all = refl
      none (k ∷ ks) all =
          let first = sum_by-cons (λ j. cond (nat_lt j (n + 0)) 1 0) k ks ∙ ap (λ (b : Bool). cond b 1 0 + count_by (λ j. nat_lt j (n + 0)) ks) (not_lt k all.0) in
          let rest = none ks all.1 in
          omega (arith, first, rest)
  places_before n (suc m) [] = refl
  places_before n (suc m) (x ∷ xs) = by (places_before (n + 1) m xs) (p x) refl
    where
      same : n + 1 + m ≡ n + suc m
      same = omega arith

      low : (a b : ℕ) → nat_lt a (a + suc b) ≡ true
      low a b = grind (arith, nat_tests)

      by : count_by (λ k. nat_lt k (n + 1 + m)) (places_from p (n + 1) xs) ≡ count_by p (take m xs) → (b : Bool) → p x ≡ b
          → count_by (λ k. nat_lt k (n + suc m)) (if b then n ∷ places_from p (n + 1) xs else places_from p (n + 1) xs) ≡ count_by p (x ∷ take m xs)
      by later true is =
          let moved = ap (λ (j : ℕ). count_by (λ k. nat_lt k j) (places_from p (n + 1) xs)) (sym same) ∙ later in
          let left = sum_by-cons (λ k. cond (nat_lt k (n + suc m)) 1 0) n (places_from p (n + 1) xs) ∙ ap (λ (b : Bool). cond b 1 0 + count_by (λ k. nat_lt k (n + suc m)) (places_from p (n + 1) xs)) (low n m) in
          let right = sum_by-cons (λ y. cond (p y) 1 0) x (take m xs) ∙ ap (λ (b : Bool). cond b 1 0 + count_by p (take m xs)) is in
          omega (arith, moved, left, right)
      by later false is =
          let moved = ap (λ (j : ℕ). count_by (λ k. nat_lt k j) (places_from p (n + 1) xs)) (sym same) ∙ later in
          let right = sum_by-cons (λ y. cond (p y) 1 0) x (take m xs) ∙ ap (λ (b : Bool). cond b 1 0 + count_by p (take m xs)) is in
          omega (arith, moved, right)

  -- places ascend
  pub places_rise : (n : ℕ) (xs : List A) → AllPairs (λ (a b : ℕ). a < b) (places_from p n xs)
  places_rise n [] = λ i j d less within. absurd (omega (arith, within))
  places_rise n (x ∷ xs) = by (places_rise (n + 1) xs) (p x)
    where
      by : AllPairs (λ (a b : ℕ). a < b) (places_from p (n + 1) xs) → (b : Bool) → AllPairs (λ (a b : ℕ). a < b) (if b then n ∷ places_from p (n + 1) xs else places_from p (n + 1) xs)
      by later true = AllPairs-cons (λ (a b : ℕ). a < b) n (places_from p (n + 1) xs) (All-from_recursion (λ (k : ℕ). n < k) (places_from p (n + 1) xs) (raise (places_from p (n + 1) xs) (places_high (n + 1) xs))) later
        where
          raise : (ks : List ℕ) → AllByRecursion (λ k. n + 1 ≤ k) ks → AllByRecursion (λ k. n < k) ks
          raise [] all = tt
          raise (k ∷ ks) all = (omega (arith, all.0), raise ks all.1)
      by later false = later

-- one element more
pub places_push : {A : Type 0} (p : A → Bool) (n : ℕ) (xs : List A) (x : A) → places_from p n (xs ++ x ∷ []) ≡ places_from p n xs ++ (if p x then (n + length xs) ∷ [] else [])
places_push p n [] x = let same : n ≡ n + 0 = omega arith in ap (λ (k : ℕ). if p x then k ∷ [] else []) same
places_push {A} p n (y ∷ ys) x = by (places_push p (n + 1) ys x) (p y)
  where
    same : n + 1 + length ys ≡ n + suc (length ys)
    same = omega arith

    by : places_from p (n + 1) (ys ++ x ∷ []) ≡ places_from p (n + 1) ys ++ (if p x then (n + 1 + length ys) ∷ [] else []) → (b : Bool)
        → (if b then n ∷ places_from p (n + 1) (ys ++ x ∷ []) else places_from p (n + 1) (ys ++ x ∷ [])) ≡ (if b then n ∷ places_from p (n + 1) ys else places_from p (n + 1) ys) ++ (if p x then (n + suc (length ys)) ∷ [] else [])
    by later true = ap (λ (l : List ℕ). n ∷ l) (later ∙ ap (λ (k : ℕ). places_from p (n + 1) ys ++ (if p x then k ∷ [] else [])) same)
    by later false = later ∙ ap (λ (k : ℕ). places_from p (n + 1) ys ++ (if p x then k ∷ [] else [])) same

pub places_map : {A B : Type 0} (p : B → Bool) (f : A → B) (n : ℕ) (xs : List A) → places_from p n (map f xs) ≡ places_from (λ x. p (f x)) n xs
places_map p f n [] = refl
places_map p f n (x ∷ xs) = ap (λ (l : List ℕ). if p (f x) then n ∷ l else l) (places_map p f (n + 1) xs)

-- what a list tells of another one, at a place
pub told_at : {A B : Type 0} (f : A → Option B) (xs : List A) (ys : List B) (i : ℕ) (x : A) → map f xs ≡ map (λ (y : B). Some y) ys → slice_get xs i ≡ Some x → f x ≡ slice_get ys i
told_at f [] ys i x told there = let never : None ≡ Some x = there in absurd cc
told_at {A} {B} f (a ∷ xs) [] i x told there = let long = ap length told in absurd (omega (arith, long))
told_at {A} {B} f (a ∷ xs) (y ∷ ys) zero x told there =
    let same : a ≡ x = cc in ap f (sym same) ∙ first told
  where
    first : f a ∷ map f xs ≡ Some y ∷ map (λ (z : B). Some z) ys → f a ≡ Some y
    first is = ap head is
      where
        head : List (Option B) → Option B
        head [] = f a
        head (o ∷ os) = o
told_at {A} {B} f (a ∷ xs) (y ∷ ys) (suc i) x told there = told_at f xs ys i x (rest told) there
  where
    rest : f a ∷ map f xs ≡ Some y ∷ map (λ (z : B). Some z) ys → map f xs ≡ map (λ (z : B). Some z) ys
    rest is = ap tail is
      where
        tail : List (Option B) → List (Option B)
        tail [] = []
        tail (o ∷ os) = os

long : {A B : Type 0} (f : A → B) (xs : List A) → length (map f xs) ≡ length xs
long f [] = refl
long f (x ∷ xs) = let later = long f xs in omega (arith, later)

mapped_at : {A B : Type 0} (f : A → B) (xs : List A) (i : ℕ) (d : A) → get_or (map f xs) i (f d) ≡ f (get_or xs i d)
mapped_at f [] i d = refl
mapped_at f (x ∷ xs) zero d = refl
mapped_at f (x ∷ xs) (suc i) d = mapped_at f xs i d

pub told_long : {A B : Type 0} (f : A → Option B) (xs : List A) (ys : List B) → map f xs ≡ map (λ (y : B). Some y) ys → length xs ≡ length ys
told_long {A} {B} f xs ys told = sym (long f xs) ∙ (ap length told ∙ long (λ (y : B). Some y) ys)

pub count_map : {A B : Type 0} (p : B → Bool) (f : A → B) (xs : List A) → count_by (λ x. p (f x)) xs ≡ count_by p (map f xs)
count_map p f [] = refl
count_map p f (x ∷ xs) =
    let first = sum_by-cons (λ a. cond (p (f a)) 1 0) x xs in
    let second = sum_by-cons (λ b. cond (p b) 1 0) (f x) (map f xs) in
    let rest = count_map p f xs in
    omega (arith, first, second, rest)

-- pairs of images are pairs
pub pairs_map : {A : Type 0} (f : A → ℕ) (xs : List A) → AllPairs (λ (a b : ℕ). a < b) (map f xs) → AllPairs (λ a b. f a < f b) xs
pairs_map {A} f xs pairs i j d less within =
    let count = long f xs in
    let at_i = mapped_at f xs i d in
    let at_j = mapped_at f xs j d in
    omega (arith, pairs i j (f d) less (omega (arith, count, within)), at_i, at_j)

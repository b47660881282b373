-- What lies in a range of numbers, and what a filter keeps of it.
use Rattle.reiser_bitmap.proofs.Imports.{◌≡◌, ◌⊎◌, ℕ, zero, suc, ◌+◌, ◌-◌, ◌<◌, ◌≤◌, Bool, true, false, List, [], ◌∷◌, ◌++◌, length, get_or, cond, inl, inr, refl, sym, ◌∙◌, ap, arith, subst, ⊎_elim, filter, Contains, All, range_with_len, append-nil, length_push, Contains-get_or, filter-append, length-range_with_len, get_or-range_with_len}

pub contains_head : {X : Type 0} (x : X) (xs : List X) → Contains (x ∷ xs) x
contains_head x xs = (zero, omega arith, refl)

pub contains_tail : {X : Type 0} (x y : X) (xs : List X) → Contains xs x → Contains (y ∷ xs) x
contains_tail x y xs h = (suc h.0, omega (arith, h.1), h.2)

cases_at : {X : Type 0} (x y : X) (xs : List X) (k : ℕ) → k < length (y ∷ xs) → get_or (y ∷ xs) k x ≡ x → (y ≡ x) ⊎ Contains xs x
cases_at x y xs zero h e = inl e
cases_at x y xs (suc k) h e = inr (k, omega arith, e)

pub contains_cases : {X : Type 0} (x y : X) (xs : List X) → Contains (y ∷ xs) x → (y ≡ x) ⊎ Contains xs x
contains_cases x y xs h = cases_at x y xs h.0 h.1 h.2

pub contains_range : (a n b : ℕ) → a ≤ b → b < a + n → Contains (range_with_len a n) b
contains_range a n b low high =
    let place : b - a < n = omega arith in
    let is : a + (b - a) ≡ b = omega arith in
    (b - a, omega (arith, length-range_with_len a n), get_or-range_with_len a n (b - a) b place ∙ is)

pub range_contains : (a n b : ℕ) → Contains (range_with_len a n) b → (a ≤ b) × (b < a + n)
range_contains a n b h =
    let place : h.0 < n = omega (arith, h.1, length-range_with_len a n) in
    let is : a + h.0 ≡ b = sym (get_or-range_with_len a n h.0 b place) ∙ h.2 in
    (omega arith, omega arith)

pub contains_filter : {X : Type 0} (p : X → Bool) (xs : List X) (x : X) → p x ≡ true → Contains xs x → Contains (filter p xs) x
contains_filter p [] x t h = absurd (omega (arith, h.1))
contains_filter {X} p (y ∷ xs) x t h =
    ⊎_elim
    (λ same. let passes : p y ≡ true = ap p same ∙ t in rw passes (subst (λ (z : X). Contains (z ∷ filter p xs) x) (sym same) (contains_head x (filter p xs))))
    (λ later. let inside = contains_filter p xs x t later in
    elim (p y) as (λ b. Contains (cond b (y ∷ filter p xs) (filter p xs)) x) [ true ↦ contains_tail x y (filter p xs) inside | false ↦ inside ])
    (contains_cases x y xs h)

pub filter_contains : {X : Type 0} (p : X → Bool) (xs : List X) (x : X) → Contains (filter p xs) x → Contains xs x × (p x ≡ true)
filter_contains p [] x h = absurd (omega (arith, h.1))
filter_contains {X} p (y ∷ xs) x h =
    (elim (p y) as (λ b. p y ≡ b → Contains (cond b (y ∷ filter p xs) (filter p xs)) x → Contains (y ∷ xs) x × (p x ≡ true)) [
      | true ↦ λ is inside.
          ⊎_elim
          (λ same. (subst (λ (z : X). Contains (y ∷ xs) z) same (contains_head y xs), subst (λ (z : X). p z ≡ true) same is))
          (λ later. let rest = filter_contains p xs x later in (contains_tail x y xs rest.0, rest.1))
          (contains_cases x y (filter p xs) inside)
      | false ↦ λ is inside. let rest = filter_contains p xs x inside in (contains_tail x y xs rest.0, rest.1)
    ]) refl h

-- what holds of each element holds of all
pub all_from_contains : {X : Type 0} (P : X → Type 0) (xs : List X) → ((x : X) → Contains xs x → P x) → All P xs
all_from_contains P xs each = λ k d h. each (get_or xs k d) (Contains-get_or xs k d h)

-- a range is cut in two
pub range_cut : (a m n k j : ℕ) → m + n ≡ k → a + m ≡ j → range_with_len a k ≡ range_with_len a m ++ range_with_len j n
range_cut a zero n k j sum at =
    let all : k ≡ n = omega arith in
    let here : j ≡ a = omega arith in rw (all, here) refl
range_cut a (suc m) n zero j sum at = absurd (omega arith)
range_cut a (suc m) n (suc k) j sum at = ap (λ (xs : List ℕ). a ∷ xs) (range_cut (a + 1) m n k j (omega arith) (omega arith))

-- two tests that agree on a range keep the same of it
pub filter_range_same : (p q : ℕ → Bool) (a n : ℕ) → ((b : ℕ) → a ≤ b → b < a + n → p b ≡ q b) → filter p (range_with_len a n) ≡ filter q (range_with_len a n)
filter_range_same p q a zero same = refl
filter_range_same p q a (suc n) same =
    let rest : filter p (range_with_len (a + 1) n) ≡ filter q (range_with_len (a + 1) n) = filter_range_same p q (a + 1) n (λ b low high. same b (omega arith) (omega arith)) in
    let here : p a ≡ q a = same a (omega arith) (omega arith) in rw (here, rest) refl

pub filter_range_none : (p : ℕ → Bool) (a n : ℕ) → ((b : ℕ) → a ≤ b → b < a + n → p b ≡ false) → filter p (range_with_len a n) ≡ []
filter_range_none p a zero none = refl
filter_range_none p a (suc n) none =
    let here : p a ≡ false = none a (omega arith) (omega arith) in
    rw here (filter_range_none p (a + 1) n (λ b low high. none b (omega arith) (omega arith)))

-- one number more
pub filter_more : (p : ℕ → Bool) (n : ℕ) → filter p (range_with_len 0 (n + 1)) ≡ filter p (range_with_len 0 n) ++ cond (p n) (n ∷ []) []
filter_more p n = ap (filter p) (range_cut 0 n 1 (n + 1) n refl (omega arith)) ∙ filter-append p (range_with_len 0 n) (n ∷ [])

pub filter_more_yes : (p : ℕ → Bool) (n : ℕ) → p n ≡ true → filter p (range_with_len 0 (n + 1)) ≡ filter p (range_with_len 0 n) ++ n ∷ []
filter_more_yes p n t = filter_more p n ∙ rw t refl

pub filter_more_no : (p : ℕ → Bool) (n : ℕ) → p n ≡ false → filter p (range_with_len 0 (n + 1)) ≡ filter p (range_with_len 0 n)
filter_more_no p n t = filter_more p n ∙ (rw t refl ∙ append-nil (filter p (range_with_len 0 n)))

pub count_more_yes : (p : ℕ → Bool) (n : ℕ) → p n ≡ true → length (filter p (range_with_len 0 (n + 1))) ≡ length (filter p (range_with_len 0 n)) + 1
count_more_yes p n t = ap length (filter_more_yes p n t) ∙ length_push (filter p (range_with_len 0 n)) n

-- How many numbers of a range pass a test.
use Rattle.unit_plan.proofs.Imports.{◌≡◌, ℕ, zero, suc, ◌+◌, ◌-◌, ◌%◌, ◌<◌, ◌≤◌, ◌&&◌, ◌||◌, ltb, eqb, not, Bool, true, false, List, [], ◌∷◌, ◌++◌, length, cond, refl, ◌∙◌, ap, arith, length-append, ⊎_elim, filter, range_with_len, div_ceil, cases_Bool, cases_eq, eq-eqb, ne_eqb, lt-ltb, filter-append, begins_run, range_cut, filter_range_none}

unfoldable pub tally : (ℕ → Bool) → ℕ → ℕ → ℕ
tally p a n = length (filter p (range_with_len a n))

pub tally-is : (p : ℕ → Bool) (a n : ℕ) → tally p a n ≡ length (filter p (range_with_len a n))
unfolding tally
tally-is p a n = refl

pub tally-zero : (p : ℕ → Bool) (a : ℕ) → tally p a 0 ≡ 0
unfolding tally
tally-zero p a = refl

pub tally-suc : (p : ℕ → Bool) (a n : ℕ) → tally p a (suc n) ≡ cond (p a) 1 0 + tally p (a + 1) n
unfolding tally
tally-suc p a n = ⊎_elim (λ (t : p a ≡ true). rw t (omega arith)) (λ (t : p a ≡ false). rw t (omega arith)) (cases_Bool (p a))

-- one number more at the end
tally-more : (p : ℕ → Bool) (n : ℕ) → tally p 0 (suc n) ≡ tally p 0 n + cond (p n) 1 0
unfolding tally
tally-more p n =
    let cut : filter p (range_with_len 0 (suc n)) ≡ filter p (range_with_len 0 n) ++ filter p (n ∷ []) =
    ap (filter p) (range_cut 0 n 1 (suc n) n (omega arith) (omega arith)) ∙ filter-append p (range_with_len 0 n) (n ∷ []) in
    let one : length (filter p (n ∷ [])) ≡ cond (p n) 1 0 = ⊎_elim (λ (t : p n ≡ true). rw t refl) (λ (t : p n ≡ false). rw t refl) (cases_Bool (p n)) in
    ap length cut ∙ (length-append (filter p (range_with_len 0 n)) (filter p (n ∷ [])) ∙ ap (λ (k : ℕ). tally p 0 n + k) one)

pub if_true : (b : Bool) → b ≡ true → cond {A = ℕ} b 1 0 ≡ 1
if_true b t = ap (λ (b : Bool). cond {A = ℕ} b 1 0) t

pub if_false : (b : Bool) → b ≡ false → cond {A = ℕ} b 1 0 ≡ 0
if_false b f = ap (λ (b : Bool). cond {A = ℕ} b 1 0) f

one_of : (x y : Bool) → cond (x || y) 1 0 ≤ cond x 1 0 + cond y 1 0
one_of true true = omega arith
one_of true false = omega arith
one_of false true = omega arith
one_of false false = omega arith

pub tally_either : (p q : ℕ → Bool) (a n : ℕ) → tally (λ u. p u || q u) a n ≤ tally p a n + tally q a n
tally_either p q a zero = omega (arith, tally-zero (λ u. p u || q u) a)
tally_either p q a (suc n) =
    omega (arith, tally-suc (λ u. p u || q u) a n, tally-suc p a n, tally-suc q a n, one_of (p a) (q a), tally_either p q (a + 1) n)

-- one number at most is this
past_one : (c a n : ℕ) → c < a → tally (λ u. eqb u c) a n ≡ 0
past_one c a zero below = tally-zero (λ u. eqb u c) a
past_one c a (suc n) below =
    omega (arith, tally-suc (λ u. eqb u c) a n, past_one c (a + 1) n (omega arith), if_false (eqb a c) (ne_eqb a c (λ same. omega arith)))

pub tally_one : (c a n : ℕ) → tally (λ u. eqb u c) a n ≤ 1
tally_one c a zero = omega (arith, tally-zero (λ u. eqb u c) a)
tally_one c a (suc n) =
    ⊎_elim
    (λ (same : a ≡ c).
    omega (arith, tally-suc (λ u. eqb u c) a n, past_one c (a + 1) n (omega arith), if_true (eqb a c) (eq-eqb a c same)))
    (λ (other : a ≡ c → ⊥).
    omega (arith, tally-suc (λ u. eqb u c) a n, tally_one c (a + 1) n, if_false (eqb a c) (ne_eqb a c other)))
    (cases_eq a c)

-- multiples of 1024
pub tally_multiples : (n : ℕ) → tally (λ u. eqb (u % 1024) 0) 0 n ≡ div_ceil n 1024
tally_multiples zero = tally-zero (λ u. eqb (u % 1024) 0) 0
tally_multiples (suc n) =
    ⊎_elim
    (λ (zeroth : n % 1024 ≡ 0).
    omega (arith, tally-more (λ u. eqb (u % 1024) 0) n, tally_multiples n, if_true (eqb (n % 1024) 0) (eq-eqb (n % 1024) 0 zeroth)))
    (λ (other : n % 1024 ≡ 0 → ⊥).
    omega (arith, tally-more (λ u. eqb (u % 1024) 0) n, tally_multiples n, if_false (eqb (n % 1024) 0) (ne_eqb (n % 1024) 0 other)))
    (cases_eq (n % 1024) 0)

-- less from 1 on
pub tally_from_one : (p : ℕ → Bool) (n : ℕ) → 1 ≤ n → tally p 1 (n - 1) ≤ tally p 0 n
tally_from_one p zero some = absurd (omega arith)
tally_from_one p (suc n) some =
    let rest : tally p (0 + 1) n ≡ tally p 1 (suc n - 1) = let same : n ≡ suc n - 1 = omega arith in ap (tally p 1) same in
    omega (arith, tally-suc p 0 n, rest)

-- none past a number
pub tally_within : (p : ℕ → Bool) (m n : ℕ) → m ≤ n → ((u : ℕ) → m ≤ u → p u ≡ false) → tally p 0 n ≡ tally p 0 m
unfolding tally
tally_within p m n few past =
    ap length
    (ap (filter p) (range_cut 0 m (n - m) n m (omega arith) (omega arith))
    ∙ filter-append p (range_with_len 0 m) (range_with_len m (n - m)))
    ∙ (length-append (filter p (range_with_len 0 m)) (filter p (range_with_len m (n - m)))
    ∙ (ap (λ (xs : List ℕ). length (filter p (range_with_len 0 m)) + length xs) (filter_range_none p m (n - m) (λ b low high. past b low)) ∙ omega arith))

-- directly behind a run
abbrev pub ends_run : (ℕ → Bool) → ℕ → Bool
ends_run p u = (ltb 0 u && p (u - 1)) && not (p u)

-- the number before passes
abbrev before_passes : (ℕ → Bool) → ℕ → Bool
before_passes p u = ltb 0 u && p (u - 1)

step : (before now : Bool) (e b : ℕ) → e + cond before 1 0 ≡ b → (e + cond (before && not now) 1 0) + cond now 1 0 ≡ b + cond (now && not before) 1 0
step true true e b h = omega arith
step true false e b h = omega arith
step false true e b h = omega arith
step false false e b h = omega arith

runs_end : (p : ℕ → Bool) (n : ℕ) → tally (ends_run p) 0 n + cond (before_passes p n) 1 0 ≡ tally (begins_run p) 0 n
runs_end p zero = omega (arith, tally-zero (ends_run p) 0, tally-zero (begins_run p) 0)
runs_end p (suc n) =
    let now : before_passes p (suc n) ≡ p n = let same : suc n - 1 ≡ n = omega arith in ap (λ (b : Bool). b && p (suc n - 1)) (lt-ltb 0 (suc n) (omega arith)) ∙ ap p same in
    let last : cond {A = ℕ} (before_passes p (suc n)) 1 0 ≡ cond {A = ℕ} (p n) 1 0 = ap (λ (b : Bool). cond {A = ℕ} b 1 0) now in
    omega (
      arith,
      tally-more (ends_run p) n,
      tally-more (begins_run p) n,
      last,
      step (before_passes p n) (p n) (tally (ends_run p) 0 n) (tally (begins_run p) 0 n) (runs_end p n),
    )

pub tally_ends : (p : ℕ → Bool) (n : ℕ) → tally (ends_run p) 0 n ≤ tally (begins_run p) 0 n
tally_ends p n = omega (arith, runs_end p n)

-- Ascending keys: how many of them are below one, and which a look-up finds.
use Rattle.outside_mem.proofs.Imports.{◌≡◌, ◌≢◌, inl, inr, ⊎_elim, ℕ, zero, suc, ◌+◌, ◌<◌, ◌≤◌, Bool, true, false, cond, ◌||◌, nat_lt, filter, is_some, Some, None, List, [], ◌∷◌, length, get_or, refl, sym, ◌∙◌, ap, subst, arith, cases_eq, cases_lt, cases_order, lt-ltb, le-ltb, both_ways, or_from, or_left, length-range_with_len, get_or-range_with_len, All-filter, filter_passes, nat_tests, sorted_head, sorted_tail, below_from_sorted, sorted_from_strictly_increasing, nat_cmp, is_eq, is_at, lookup, keys_of, AllByRecursion, count_by, range_with_len, list_any, IsStrictlySortedBy}
use Rattle.std.specs.List.{All}
use Rattle.std.proofs.lemmas.List.Sums.{sum_by-cons}
use Rattle.std.proofs.lemmas.List.Kept.{IsStrictlySortedBy-filter}
use Rattle.std.proofs.lemmas.Map.Made.{is_some-lookup}
use Rattle.std.specs.declared.cmp.Ordering.TheVariants.{Less, Equal, Greater}
use Rattle.std.specs.Cmp.{nat_cmp_is}

-- ---- one key
pub here_eq : (n : ℕ) → is_at (nat_cmp n) n ≡ true
here_eq n = ap is_eq (sym (nat_cmp_is n n Equal refl))

pub apart_eq : (n q : ℕ) → q ≢ n → is_at (nat_cmp n) q ≡ false
apart_eq n q other = elim (cases_order n q) [
  | inl same ↦ absurd (other (sym same))
  | inr (inl below) ↦ ap is_eq (sym (nat_cmp_is n q Less below))
  | inr (inr above) ↦ ap is_eq (sym (nat_cmp_is n q Greater above))
]

pub lt_from_less : (n y : ℕ) → nat_cmp n y ≡ Less → n < y
lt_from_less n y is = grind (arith, nat_tests)

-- ---- keys that are all above one
abbrev pub AllAbove : ℕ → List ℕ → Type 0
AllAbove n [] = Unit {0}
AllAbove n (y ∷ ys) = (n < y) × AllAbove n ys

above_from_less : (n : ℕ) (ks : List ℕ) → AllByRecursion (λ y. nat_cmp n y ≡ Less) ks → AllAbove n ks
above_from_less n [] all = tt
above_from_less n (k ∷ ks) all = (lt_from_less n k all.0, above_from_less n ks all.1)

pub head_below : (k : ℕ) (ks : List ℕ) → IsStrictlySortedBy nat_cmp (k ∷ ks) → AllAbove k ks
head_below k ks ordered = above_from_less k ks (sorted_head nat_cmp k ks ordered)

-- what a test adds to a count
abbrev tally : Bool → ℕ
tally t = cond t 1 0

count_cons : (q k : ℕ) (ks : List ℕ) → count_by (λ a. nat_lt a q) (k ∷ ks) ≡ tally (nat_lt k q) + count_by (λ a. nat_lt a q) ks
count_cons q k ks = sum_by-cons (λ a. tally (nat_lt a q)) k ks

pub count_none : (n : ℕ) (ks : List ℕ) → AllAbove n ks → count_by (λ a. nat_lt a n) ks ≡ 0
count_none n [] all = refl
count_none n (k ∷ ks) all =
    let no : tally (nat_lt k n) ≡ 0 = ap tally (le-ltb k n (omega (arith, all.0))) in
    omega (arith, count_cons n k ks, no, count_none n ks all.1)

pub count_before_first : (k : ℕ) (ks : List ℕ) → AllAbove k ks → count_by (λ a. nat_lt a k) (k ∷ ks) ≡ 0
count_before_first k ks all =
    let no : tally (nat_lt k k) ≡ 0 = ap tally (le-ltb k k (omega arith)) in
    omega (arith, count_cons k k ks, no, count_none k ks all)

pub count_first : (n q : ℕ) (ks : List ℕ) → n < q → count_by (λ a. nat_lt a q) (n ∷ ks) ≡ 1 + count_by (λ a. nat_lt a q) ks
count_first n q ks below =
    let yes : tally (nat_lt n q) ≡ 1 = ap tally (lt-ltb n q below) in
    omega (arith, count_cons q n ks, yes)

pub none_below : {X : Type 0} (n q : ℕ) → q ≤ n → (es : List (ℕ × X)) → AllAbove n (keys_of es) → lookup (is_at (nat_cmp q)) es ≡ None
none_below n q le [] all = refl
none_below {X} n q le (e ∷ es) all =
    ap (λ (t : Bool). cond t (Some e.1) (lookup (is_at (nat_cmp q)) es)) (apart_eq q e.0 (λ same. omega (arith, le, all.0, same))) ∙ none_below n q le es all.1

pub above_from_found : {X : Type 0} (n q : ℕ) (es : List (ℕ × X)) (x : X) → AllAbove n (keys_of es) → lookup (is_at (nat_cmp q)) es ≡ Some x → n < q
above_from_found n q es x all found = ⊎_elim (λ below. below)
    (λ le. absurd (both_ways (is_some (lookup (is_at (nat_cmp q)) es)) (ap is_some (none_below n q le es all)) (ap is_some found)))
    (cases_lt n q)

-- in ascending order as many keys are below a key as its place says
pub count_before : (ks : List ℕ) (i : ℕ) → IsStrictlySortedBy nat_cmp ks → i < length ks → count_by (λ a. nat_lt a (get_or ks i 0)) ks ≡ i
count_before [] i ordered below = absurd (omega (arith, below))
count_before (k ∷ ks) zero ordered below = count_before_first k ks (head_below k ks ordered)
count_before (k ∷ ks) (suc i) ordered below =
    let later : k < get_or ks i 0 = below_from_sorted (k ∷ ks) 0 (suc i) 0 ordered (omega arith) below in
    omega (arith, count_first k (get_or ks i 0) ks later, count_before ks i (sorted_tail nat_cmp k ks ordered) (omega (arith, below)))

-- ---- keys that are exactly the numbers that pass a test
abbrev has : ℕ → List ℕ → Bool
has q ks = list_any (is_at (nat_cmp q)) ks

abbrev AllFrom : ℕ → List ℕ → Type 0
AllFrom a [] = Unit {0}
AllFrom a (k ∷ ks) = (a ≤ k) × AllFrom a ks

from_above : (a n : ℕ) → a ≤ n + 1 → (ks : List ℕ) → AllAbove n ks → AllFrom a ks
from_above a n le [] all = tt
from_above a n le (k ∷ ks) all = (omega (arith, le, all.0), from_above a n le ks all.1)

has_none : (n q : ℕ) → q ≤ n → (ks : List ℕ) → AllAbove n ks → has q ks ≡ false
has_none n q le [] all = refl
has_none n q le (k ∷ ks) all = or_from (is_at (nat_cmp q) k) (has q ks) (apart_eq q k (λ same. omega (arith, le, all.0, same))) (has_none n q le ks all.1)

has_head : (k : ℕ) (ks : List ℕ) → has k (k ∷ ks) ≡ true
has_head k ks = or_left (is_at (nat_cmp k) k) (has k ks) (here_eq k)

module _ (w : ℕ → Bool) (n : ℕ) (fits : (q : ℕ) → w q ≡ true → q < n) where
  keys_from : (m a : ℕ) → a + m ≡ n → (ks : List ℕ) → IsStrictlySortedBy nat_cmp ks → AllFrom a ks → ((q : ℕ) → a ≤ q → has q ks ≡ w q) → ks ≡ filter w (range_with_len a m)
  keys_from zero a end [] ordered from same = refl
  keys_from zero a end (k ∷ ks) ordered from same =
      absurd (omega (arith, end, from.0, fits k (sym (same k from.0) ∙ has_head k ks)))
  keys_from (suc m) a end [] ordered from same =
      keys_from m (a + 1) (omega (arith, end)) [] ordered tt (λ q late. same q (omega (arith, late)))
      ∙ ap (λ (t : Bool). cond t (a ∷ filter w (range_with_len (a + 1) m)) (filter w (range_with_len (a + 1) m))) (same a (omega arith))
  keys_from (suc m) a end (k ∷ ks) ordered from same = ⊎_elim
      (λ here.
      let rest : ks ≡ filter w (range_with_len (a + 1) m) =
      keys_from m (a + 1) (omega (arith, end)) ks (sorted_tail nat_cmp k ks ordered) (from_above (a + 1) k (omega (arith, here)) ks (head_below k ks ordered))
      (λ q late. ap (λ (t : Bool). t || has q ks) (sym (apart_eq q k (λ at. omega (arith, here, late, at)))) ∙ same q (omega (arith, late))) in
      let yes : true ≡ w a = sym (ap (λ (j : ℕ). has j (k ∷ ks)) (sym here) ∙ has_head k ks) ∙ same a (omega arith) in
      ap (λ (j : ℕ). j ∷ ks) here
      ∙ ap (λ (l : List ℕ). a ∷ l) rest
      ∙ ap (λ (t : Bool). cond t (a ∷ filter w (range_with_len (a + 1) m)) (filter w (range_with_len (a + 1) m))) yes)
      (λ other.
      let above : a < k = omega (arith, from.0, other) in
      let no : false ≡ w a = sym (or_from (is_at (nat_cmp a) k) (has a ks) (apart_eq a k other) (has_none k a from.0 ks (head_below k ks ordered))) ∙ same a (omega arith) in
      keys_from m (a + 1) (omega (arith, end)) (k ∷ ks) ordered (omega (arith, above), from_above (a + 1) k (omega (arith, above)) ks (head_below k ks ordered)) (λ q late. same q (omega (arith, late)))
      ∙ ap (λ (t : Bool). cond t (a ∷ filter w (range_with_len (a + 1) m)) (filter w (range_with_len (a + 1) m))) no)
      (cases_eq k a)

  -- the keys of entries in order, where a look-up finds exactly what passes the test
  pub keys_are : {X : Type 0} (es : List (ℕ × X)) → IsStrictlySortedBy nat_cmp (keys_of es) → ((q : ℕ) → is_some (lookup (is_at (nat_cmp q)) es) ≡ w q) → keys_of es ≡ filter w (range_with_len 0 n)
  keys_are es ordered same = keys_from n 0 (omega arith) (keys_of es) ordered (all_from_zero (keys_of es)) (λ q _. sym (is_some-lookup (is_at (nat_cmp q)) es) ∙ same q)
    where
      all_from_zero : (ks : List ℕ) → AllFrom 0 ks
      all_from_zero [] = tt
      all_from_zero (k ∷ ks) = (omega arith, all_from_zero ks)

-- ---- the numbers below one that pass a test
module _ (w : ℕ → Bool) (n : ℕ) where
  abbrev passing : List ℕ
  passing = filter w (range_with_len 0 n)

  pub passing_ordered : IsStrictlySortedBy nat_cmp passing
  passing_ordered =
      IsStrictlySortedBy-filter nat_cmp w (range_with_len 0 n) (sorted_from_strictly_increasing (range_with_len 0 n)
      (λ k below.
      let within : k + 1 < n = omega (arith, below, length-range_with_len 0 n) in
      omega (arith, get_or-range_with_len 0 n k 0 (omega (arith, within)), get_or-range_with_len 0 n (k + 1) 0 within)))

  pub passing_below : All (λ q. q < n) passing
  passing_below = All-filter w (λ q. q < n) (range_with_len 0 n) (λ k d below.
      let within : k < n = omega (arith, below, length-range_with_len 0 n) in
      omega (arith, within, get_or-range_with_len 0 n k d within))

-- a number that passes has a place among them
pub passing_place : (w : ℕ → Bool) (m a q : ℕ) → a ≤ q → q < a + m → w q ≡ true → (j : ℕ) × (j < length (filter w (range_with_len a m))) × (get_or (filter w (range_with_len a m)) j 0 ≡ q)
passing_place w zero a q from below is = absurd (omega (arith, from, below))
passing_place w (suc m) a q from below is = ⊎_elim
    (λ here.
    let F = filter w (range_with_len (a + 1) m) in
    let whole : cond (w a) (a ∷ F) F ≡ a ∷ F = ap (λ (t : Bool). cond t (a ∷ F) F) (ap w (sym here) ∙ is) in
    (0, subst (λ (l : List ℕ). 0 < length l) (sym whole) (omega arith), ap (λ (l : List ℕ). get_or l 0 0) whole ∙ sym here))
    (λ other. at (passing_place w m (a + 1) q (omega (arith, from, other)) (omega (arith, below)) is) (w a))
    (cases_eq q a)
  where
    at : (j : ℕ) × (j < length (filter w (range_with_len (a + 1) m))) × (get_or (filter w (range_with_len (a + 1) m)) j 0 ≡ q) → (t : Bool)
        → (j : ℕ) × (j < length (cond t (a ∷ filter w (range_with_len (a + 1) m)) (filter w (range_with_len (a + 1) m)))) × (get_or (cond t (a ∷ filter w (range_with_len (a + 1) m)) (filter w (range_with_len (a + 1) m))) j 0 ≡ q)
    at place true = (suc place.0, omega (arith, place.1), place.2)
    at place false = place

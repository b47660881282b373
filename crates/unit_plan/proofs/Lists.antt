-- Parts of lists and of ranges.
use Rattle.unit_plan.proofs.Imports.{◌≡◌, ℕ, zero, suc, ◌+◌, ◌-◌, ◌<◌, ◌≤◌, ◌&&◌, ◌||◌, ltb, leb, Bool, true, false, List, [], ◌∷◌, ◌++◌, length, take, drop, get_or, cond, refl, sym, ◌∙◌, ap, arith, ⊎_elim, sum_by-append, sum_by-cons, filter, range_with_len, list_any, sum_by, cases_lt, and_from, and_left, and_right, lt-ltb, le-ltb, le-leb, lt-leb, take-append-drop, drop_more, take_more, take_all, drop_all, drop-append-le, take-append-le, length-drop, length_push, filter-append, list_any-append, range_cut}

-- one number more in a range
pub range_more : (a n j : ℕ) → a + n ≡ j → range_with_len a (n + 1) ≡ range_with_len a n ++ j ∷ []
range_more a n j at = range_cut a n 1 (n + 1) j refl at

-- the first element that passes, where none before it does
pub first_passes : {X : Type 0} (p : X → Bool) (xs : List X) (i : ℕ) (d e : X) → i < length xs → filter p (take i xs) ≡ [] → p (get_or xs i d) ≡ true
    → get_or (filter p xs) 0 e ≡ get_or xs i d
first_passes p xs i d e inside none passes =
    let cut : xs ≡ take i xs ++ (get_or xs i d ∷ drop (i + 1) xs) = sym (take-append-drop i xs) ∙ ap (λ ys. take i xs ++ ys) (drop_more xs i d inside) in
    ap (λ ys. get_or (filter p ys) 0 e) cut
    ∙ (ap (λ ys. get_or ys 0 e) (filter-append p (take i xs) (get_or xs i d ∷ drop (i + 1) xs)) ∙ rw (none, passes) refl)

pub none_passes_more : {X : Type 0} (p : X → Bool) (xs : List X) (i : ℕ) (d : X) → i < length xs → filter p (take i xs) ≡ [] → p (get_or xs i d) ≡ false
    → filter p (take (i + 1) xs) ≡ []
none_passes_more p xs i d inside none fails =
    ap (filter p) (take_more xs i d inside) ∙ (filter-append p (take i xs) (get_or xs i d ∷ []) ∙ rw (none, fails) refl)

-- some elements behind the first few, and one more at the end
unfoldable pub window : {X : Type 0} → ℕ → ℕ → List X → List X
window skip wanted xs = take wanted (drop skip xs)

abbrev in_window : ℕ → ℕ → ℕ → Bool
in_window skip wanted seen = leb skip seen && ltb (seen - skip) wanted

pub window-push : {X : Type 0} (skip wanted seen : ℕ) (xs : List X) (x : X) → seen ≡ length xs
    → cond (in_window skip wanted seen) (window skip wanted xs ++ x ∷ []) (window skip wanted xs) ≡ window skip wanted (xs ++ x ∷ [])
unfolding window
window-push skip wanted seen xs x is =
    ⊎_elim
    (λ (early : seen < skip).
    let off : in_window skip wanted seen ≡ false = and_left (leb skip seen) _ (lt-leb skip seen early) in
    let none : drop skip xs ≡ [] = drop_all skip xs (omega arith) in
    let none' : drop skip (xs ++ x ∷ []) ≡ [] = drop_all skip (xs ++ x ∷ []) (omega (arith, length_push xs x)) in rw (off, none, none') refl)
    (λ (late : skip ≤ seen).
    let behind : drop skip (xs ++ x ∷ []) ≡ drop skip xs ++ x ∷ [] = drop-append-le skip xs (x ∷ []) (omega arith) in
    let long : length (drop skip xs) ≡ seen - skip = omega (arith, length-drop skip xs) in
    ⊎_elim
    (λ (more : seen - skip < wanted).
    let on : in_window skip wanted seen ≡ true = and_from (leb skip seen) (ltb (seen - skip) wanted) (le-leb skip seen late) (lt-ltb (seen - skip) wanted more) in
    let all : take wanted (drop skip xs) ≡ drop skip xs = take_all wanted (drop skip xs) (omega arith) in
    let all' : take wanted (drop skip xs ++ x ∷ []) ≡ drop skip xs ++ x ∷ [] = take_all wanted (drop skip xs ++ x ∷ []) (omega (arith, length_push (drop skip xs) x)) in
    ap (λ b. cond b (take wanted (drop skip xs) ++ x ∷ []) (take wanted (drop skip xs))) on
    ∙ (ap (λ ys. ys ++ x ∷ []) all ∙ sym (ap (take wanted) behind ∙ all')))
    (λ (full : wanted ≤ seen - skip).
    let off : in_window skip wanted seen ≡ false = and_right (leb skip seen) (ltb (seen - skip) wanted) (le-ltb (seen - skip) wanted full) in
    ap (λ b. cond b (take wanted (drop skip xs) ++ x ∷ []) (take wanted (drop skip xs))) off
    ∙ sym (ap (take wanted) behind ∙ take-append-le wanted (drop skip xs) (x ∷ []) (omega arith)))
    (cases_lt (seen - skip) wanted))
    (cases_lt seen skip)

-- no number of a range passes
pub any_range_more : (p : ℕ → Bool) (a n j : ℕ) → a + n ≡ j → list_any p (range_with_len a n) ≡ false → p j ≡ false → list_any p (range_with_len a (n + 1)) ≡ false
any_range_more p a n j at none fails = ap (list_any p) (range_more a n j at) ∙ (list_any-append p (range_with_len a n) (j ∷ []) ∙ rw (none, fails) refl)

or_true : (b : Bool) → (b || true) ≡ true
or_true true = refl
or_true false = refl

pub any_range_passes : (p : ℕ → Bool) (a m n k j : ℕ) → m + (n + 1) ≡ k → a + m ≡ j → p j ≡ true → list_any p (range_with_len a k) ≡ true
any_range_passes p a m n k j sum at passes =
    let rest : list_any p (range_with_len j (n + 1)) ≡ true = let one : n + 1 ≡ suc n = omega arith in rw one (rw passes refl) in
    ap (list_any p) (range_cut a m (n + 1) k j sum at)
    ∙ (list_any-append p (range_with_len a m) (range_with_len j (n + 1)) ∙ (ap (λ b. list_any p (range_with_len a m) || b) rest ∙ or_true (list_any p (range_with_len a m))))

-- past the end nothing passes
pub any_range_past : (p : ℕ → Bool) (a m n k j : ℕ) → m + n ≡ k → a + m ≡ j → list_any p (range_with_len a m) ≡ false → ((b : ℕ) → j ≤ b → p b ≡ false)
    → list_any p (range_with_len a k) ≡ false
any_range_past p a m n k j sum at none past =
    ap (list_any p) (range_cut a m n k j sum at) ∙ (list_any-append p (range_with_len a m) (range_with_len j n) ∙ rw (none, none_of j n past) refl)
  where
    none_of : (j n : ℕ) → ((b : ℕ) → j ≤ b → p b ≡ false) → list_any p (range_with_len j n) ≡ false
    none_of j zero past = refl
    none_of j (suc n) past = rw (past j (omega arith), none_of (j + 1) n (λ b low. past b (omega arith))) refl

-- a sum with one element more
pub sum_next : {X : Type 0} (f : X → ℕ) (xs : List X) (i : ℕ) (d : X) (before one : ℕ) → i < length xs → before ≡ sum_by f (take i xs) → one ≡ f (get_or xs i d) → before + one ≡ sum_by f (take (i + 1) xs)
sum_next f xs i d before one inside is also =
    omega (arith, is, also, ap (λ ys. sum_by f ys) (take_more xs i d inside), sum_by-append f (take i xs) (get_or xs i d ∷ []), sum_by-cons f (get_or xs i d) [])

-- How many numbers pass a test, and how long intervals are together that lie apart.
use Rattle.extent_pieces.proofs.Imports.{◌≡◌, ℕ, zero, suc, ◌+◌, ◌-◌, ◌<◌, ◌≤◌, ◌||◌, max, Bool, true, false, cond, List, [], ◌∷◌, length, refl, arith, All, AllPairs, sum_by, list_any, range_with_len, sum_by-cons}
use Rattle.std.proofs.Common.{filter}
use Rattle.extent_pieces.proofs.Lists.{all_head, all_tail, pairs_head, pairs_tail}

-- intervals of numbers from one on to before n that lie one behind the other
pub apart_fit : {X : Type 0} (start count : X → ℕ) (n low : ℕ) (xs : List X) → low ≤ n → All (λ x. low ≤ start x) xs → AllPairs (λ x y. start x + count x ≤ start y) xs → All (λ x. start x + count x ≤ n) xs
    → low + sum_by count xs ≤ n
apart_fit start count n low [] within above apart below = omega (arith, within)
apart_fit start count n low (x ∷ xs) within above apart below =
    let all : sum_by count (x ∷ xs) ≡ count x + sum_by count xs = sum_by-cons count x xs in
    let here : low ≤ start x = all_head (λ y. low ≤ start y) x xs above in
    let end : start x + count x ≤ n = all_head (λ y. start y + count y ≤ n) x xs below in
    let rest : start x + count x + sum_by count xs ≤ n =
    apart_fit start count n (start x + count x) xs end (pairs_head (λ y z. start y + count y ≤ start z) x xs apart)
    (pairs_tail (λ y z. start y + count y ≤ start z) x xs apart) (all_tail (λ y. start y + count y ≤ n) x xs below) in
    omega (arith, all, here, rest)

-- those that pass one test pass another
pub filter_fewer : {X : Type 0} (p q : X → Bool) (xs : List X) → ((x : X) → p x ≡ true → q x ≡ true) → length (filter p xs) ≤ length (filter q xs)
filter_fewer p q [] implies = omega arith
filter_fewer {X} p q (x ∷ xs) implies = by (p x) (q x) (implies x) (filter_fewer p q xs implies)
  where
    by : (a b : Bool) → (a ≡ true → b ≡ true) → length (filter p xs) ≤ length (filter q xs) → length (cond a (x ∷ filter p xs) (filter p xs)) ≤ length (cond b (x ∷ filter q xs) (filter q xs))
    by true true is rest = omega (arith, rest)
    by true false is rest = let never = is refl in absurd cc
    by false true is rest = omega (arith, rest)
    by false false is rest = omega (arith, rest)

pub filter_few : {X : Type 0} (p : X → Bool) (xs : List X) → length (filter p xs) ≤ length xs
filter_few p [] = omega arith
filter_few {X} p (x ∷ xs) = by (p x) (filter_few p xs)
  where
    by : (a : Bool) → length (filter p xs) ≤ length xs → length (cond a (x ∷ filter p xs) (filter p xs)) ≤ length (x ∷ xs)
    by true rest = omega (arith, rest)
    by false rest = omega (arith, rest)

-- those that pass one of two tests
filter_either : {X : Type 0} (p q : X → Bool) (xs : List X) → length (filter (λ x. p x || q x) xs) ≤ length (filter p xs) + length (filter q xs)
filter_either p q [] = omega arith
filter_either {X} p q (x ∷ xs) = by (p x) (q x) (filter_either p q xs)
  where
    by : (a b : Bool) → length (filter (λ y. p y || q y) xs) ≤ length (filter p xs) + length (filter q xs)
        → length (cond (a || b) (x ∷ filter (λ y. p y || q y) xs) (filter (λ y. p y || q y) xs)) ≤ length (cond a (x ∷ filter p xs) (filter p xs)) + length (cond b (x ∷ filter q xs) (filter q xs))
    by true true rest = omega (arith, rest)
    by true false rest = omega (arith, rest)
    by false true rest = omega (arith, rest)
    by false false rest = omega (arith, rest)

pub filter_none : {X : Type 0} (xs : List X) → length (filter (λ x. false) xs) ≡ 0
filter_none [] = refl
filter_none (x ∷ xs) = filter_none xs

-- those that pass one test of a list
pub filter_any : {X Y : Type 0} (h : Y → X → Bool) (most : Y → ℕ) (ys : List Y) (xs : List X) → ((y : Y) → length (filter (h y) xs) ≤ most y)
    → length (filter (λ x. list_any (λ y. h y x) ys) xs) ≤ sum_by most ys
filter_any h most [] xs few = let none = filter_none xs in omega (arith, none)
filter_any h most (y ∷ ys) xs few =
    let all : sum_by most (y ∷ ys) ≡ most y + sum_by most ys = sum_by-cons most y ys in
    let rest = filter_any h most ys xs few in
    let both = filter_either (h y) (λ x. list_any (λ z. h z x) ys) xs in
    let one = few y in
    omega (arith, all, rest, both, one)

-- numbers between two bounds
pub few_between : (p : ℕ → Bool) (a c low n : ℕ) → ((k : ℕ) → p k ≡ true → (a ≤ k) × (k < c)) → length (filter p (range_with_len low n)) ≤ c - max low a
few_between p a c low zero only = omega arith
few_between p a c low (suc n) only = by (p low) refl (few_between p a c (low + 1) n only)
  where
    by : (b : Bool) → p low ≡ b → length (filter p (range_with_len (low + 1) n)) ≤ c - max (low + 1) a
        → length (cond b (low ∷ filter p (range_with_len (low + 1) n)) (filter p (range_with_len (low + 1) n))) ≤ c - max low a
    by true is rest = let within = only low is in let first = within.0 in let last = within.1 in omega (arith, rest, first, last)
    by false is rest = omega (arith, rest)

pub sum_fewer : {X : Type 0} (f g : X → ℕ) (xs : List X) → ((x : X) → f x ≤ g x) → sum_by f xs ≤ sum_by g xs
sum_fewer f g [] each = omega arith
sum_fewer f g (x ∷ xs) each =
    let one : sum_by f (x ∷ xs) ≡ f x + sum_by f xs = sum_by-cons f x xs in
    let other : sum_by g (x ∷ xs) ≡ g x + sum_by g xs = sum_by-cons g x xs in
    let rest = sum_fewer f g xs each in
    let here = each x in
    omega (arith, one, other, rest, here)

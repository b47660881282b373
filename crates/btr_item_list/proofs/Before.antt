-- How many links come before one.
use Rattle.btr_item_list.proofs.Imports.{◌≡◌, ◌<◌, ◌≤◌, ℕ, ◌+◌, Bool, true, false, cond, List, [], ◌∷◌, length, get_or, take, drop, All, AllPairs, count_by, nat_lt, refl, sym, ap, subst, ◌∙◌, ⊎_elim, get_or-take, get_or-drop, arith, IsPartitionedBy, IsPartitionPoint, cases_lt, nat_tests, take-append-drop, length-take, length-drop, All-head, All-tail, sum_by-append, sum_by-cons, Spot}

module _ {X : Type 0} (p : X → Bool) where
  count_all : (xs : List X) → All (λ x. p x ≡ true) xs → count_by p xs ≡ length xs
  count_all [] all = refl
  count_all (x ∷ xs) all =
      let first = sum_by-cons (λ y. cond (p y) 1 0) x xs ∙ ap (λ (b : Bool). cond b 1 0 + count_by p xs) (All-head (λ y. p y ≡ true) x xs all) in
      let rest = count_all xs (All-tail (λ y. p y ≡ true) x xs all) in
      omega (arith, first, rest)

  count_none : (xs : List X) → All (λ x. p x ≡ false) xs → count_by p xs ≡ 0
  count_none [] none = refl
  count_none (x ∷ xs) none =
      let first = sum_by-cons (λ y. cond (p y) 1 0) x xs ∙ ap (λ (b : Bool). cond b 1 0 + count_by p xs) (All-head (λ y. p y ≡ false) x xs none) in
      let rest = count_none xs (All-tail (λ y. p y ≡ false) x xs none) in
      omega (arith, first, rest)

  -- where those that pass come first, they are as many as the place behind them
  pub count_at : (xs : List X) (n : ℕ) → n ≤ length xs → IsPartitionPoint (λ x. p x ≡ true) (λ x. p x ≡ false) xs n → count_by p xs ≡ n
  count_at xs n within parts =
      let long = length-take n xs in
      let rest = length-drop n xs in
      let front = count_all (take n xs) (λ k d below. subst (λ (x : X). p x ≡ true) (sym (get_or-take n xs k d (omega (arith, long, below)))) (parts.0 k d (omega arith) (omega (arith, long, below)))) in
      let back = count_none (drop n xs) (λ k d below. subst (λ (x : X). p x ≡ false) (sym (get_or-drop n xs k d)) (parts.1 (n + k) d (omega arith) (omega (arith, rest, below)))) in
      let whole = ap (count_by p) (sym (take-append-drop n xs)) ∙ sum_by-append (λ x. cond (p x) 1 0) (take n xs) (drop n xs) in
      omega (arith, whole, front, back, long, within)

-- links that ascend are parted by one
pub parted : (spots : List Spot) (link : ℕ) → AllPairs (λ (a b : Spot). a.number < b.number) spots → IsPartitionedBy (λ (spot : Spot). nat_lt spot.number link) spots
parted spots link ascend i j d before within later = ⊎_elim
    (λ less. below (get_or spots i d).number (get_or spots j d).number (ascend i j d less within) later)
    (λ not_less. let same : i ≡ j = omega (arith, before, not_less) in ap (λ (n : ℕ). nat_lt (get_or spots n d).number link) same ∙ later)
    (cases_lt i j)
  where
    below : (a b : ℕ) → a < b → nat_lt b link ≡ true → nat_lt a link ≡ true
    below a b less is = grind (arith, nat_tests)

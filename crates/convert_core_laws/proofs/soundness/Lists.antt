-- Lists: filters of merged ones, and sums over the two parts of one.
use Rattle.convert_core_laws.proofs.Imports.{◌≡◌, ℕ, Bool, true, false, not, cond, List, [], ◌∷◌, ◌++◌, filter, refl, ap, ◌∙◌, All, sum_by, Ordering, Less, Equal, Greater, All-head, All-tail, IsPermutation-filter_both, sum_by-IsPermutation, merge, merge-equal, merge-greater, merge-less}

by_order : {P : Type 0} (k : Ordering) → (k ≡ Less → P) → (k ≡ Equal → P) → (k ≡ Greater → P) → P
by_order Less a b c = a refl
by_order Equal a b c = b refl
by_order Greater a b c = c refl

module _ {X : Type 0} (p : X → Bool) where
  pub filter_on : (x : X) (xs : List X) → p x ≡ true → filter p (x ∷ xs) ≡ x ∷ filter p xs
  filter_on x xs t = ap (λ (b : Bool). cond b (x ∷ filter p xs) (filter p xs)) t

  pub filter_off : (x : X) (xs : List X) → p x ≡ false → filter p (x ∷ xs) ≡ filter p xs
  filter_off x xs f = ap (λ (b : Bool). cond b (x ∷ filter p xs) (filter p xs)) f

  -- all pass, or none
  pub filter_all : (xs : List X) → All (λ x. p x ≡ true) xs → filter p xs ≡ xs
  filter_all [] all = refl
  filter_all (x ∷ xs) all =
      filter_on x xs (All-head (λ (y : X). p y ≡ true) x xs all) ∙ ap (λ (l : List X). x ∷ l) (filter_all xs (All-tail (λ (y : X). p y ≡ true) x xs all))

  pub filter_none : (xs : List X) → All (λ x. p x ≡ false) xs → filter p xs ≡ []
  filter_none [] all = refl
  filter_none (x ∷ xs) all = filter_off x xs (All-head (λ (y : X). p y ≡ false) x xs all) ∙ filter_none xs (All-tail (λ (y : X). p y ≡ false) x xs all)

  module _ (cmp : X → X → Ordering) where
    -- those of the first list pass, and none of the second one
    first_at : (x : X) (xs : List X) → p x ≡ true → ((ys : List X) → All (λ y. p y ≡ false) ys → filter p (merge cmp xs ys) ≡ xs) → (ys : List X) → All (λ y. p y ≡ false) ys
        → filter p xs ≡ xs → filter p (merge cmp (x ∷ xs) ys) ≡ x ∷ xs
    first_at x xs t on [] none own = filter_on x xs t ∙ ap (λ (l : List X). x ∷ l) own
    first_at x xs t on (y ∷ ys) none own =
        let later : All (λ z. p z ≡ false) ys = All-tail (λ (z : X). p z ≡ false) y ys none in
        by_order (cmp x y)
        (λ e. ap (filter p) (merge-less cmp x xs y ys e) ∙ (filter_on x (merge cmp xs (y ∷ ys)) t ∙ ap (λ (l : List X). x ∷ l) (on (y ∷ ys) none)))
        (λ e. ap (filter p) (merge-equal cmp x xs y ys e) ∙ (filter_on x (merge cmp xs ys) t ∙ ap (λ (l : List X). x ∷ l) (on ys later)))
        (λ e. ap (filter p) (merge-greater cmp x xs y ys e)
        ∙ (filter_off y (merge cmp (x ∷ xs) ys) (All-head (λ (z : X). p z ≡ false) y ys none) ∙ first_at x xs t on ys later own))

    pub filter_first : (xs ys : List X) → All (λ x. p x ≡ true) xs → All (λ y. p y ≡ false) ys → filter p (merge cmp xs ys) ≡ xs
    filter_first [] ys all none = filter_none ys none
    filter_first (x ∷ xs) ys all none =
        let later : All (λ z. p z ≡ true) xs = All-tail (λ (z : X). p z ≡ true) x xs all in
        first_at x xs (All-head (λ (z : X). p z ≡ true) x xs all) (λ zs off. filter_first xs zs later off) ys none (filter_all xs later)

  -- a sum over a list is that over both its parts
  pub sum_parts : (f : X → ℕ) (xs : List X) → sum_by f (filter p xs ++ filter (λ x. not (p x)) xs) ≡ sum_by f xs
  sum_parts f xs = sum_by-IsPermutation f xs (filter p xs ++ filter (λ (x : X). not (p x)) xs) (IsPermutation-filter_both p (λ (x : X). not (p x)) (λ x. refl) xs)

-- Each list can be put in order.
use Rattle.rows_laws.proofs.Imports.{◌≡◌, suc, Bool, true, false, List, [], ◌∷◌, ◌+◌, get_or, refl, arith, All, AllPairs, All-cons, All-nil, AllPairs-cons, All-permutation, IsPermutation-cons, IsPermutation-middle, IsPermutation-refl, IsPermutation-trans}
use Rattle.std.specs.List.Sorted.{IsPermutation, IsSortedBy}
use Rattle.std.specs.Cmp.{IsStrictWeakOrder}

module _ {X : Type 0} (lt : X → X → Bool) (order : IsStrictWeakOrder lt) where
  abbrev NotBelow : X → X → Type 0
  NotBelow a b = lt b a ≡ false

  abbrev Ascend : List X → Type 0
  Ascend xs = AllPairs NotBelow xs

  -- an element with these, in order
  abbrev Put : X → List X → Type 0
  Put x ys = (zs : List X) × IsPermutation (x ∷ ys) zs × Ascend zs

  put : (x : X) (ys : List X) → Ascend ys → Put x ys
  put x [] pairs = (x ∷ [], IsPermutation-refl (x ∷ []), AllPairs-cons NotBelow x [] (All-nil (NotBelow x)) pairs)
  put x (y ∷ ys) pairs = by (lt x y) refl (put x ys (λ i j d below within. pairs (suc i) (suc j) d (omega arith) (omega arith)))
    where
      above : All (NotBelow y) ys
      above k d within = pairs 0 (suc k) d (omega arith) (omega arith)

      by : (b : Bool) → lt x y ≡ b → Put x ys → Put x (y ∷ ys)
      by true is rest =
          let low : NotBelow x y = order.one_way x y is in
          let all : All (NotBelow x) (y ∷ ys) = All-cons (NotBelow x) y ys low (λ k d within. order.chain (get_or ys k d) y x (above k d within) low) in
          (x ∷ y ∷ ys, IsPermutation-refl (x ∷ y ∷ ys), AllPairs-cons NotBelow x (y ∷ ys) all pairs)
      by false is rest =
          let all : All (NotBelow y) rest.0 = All-permutation (NotBelow y) (x ∷ ys) rest.0 rest.1 (All-cons (NotBelow y) x ys is above) in (
            y ∷ rest.0,
            IsPermutation-trans (x ∷ y ∷ ys) (y ∷ x ∷ ys) (y ∷ rest.0) (IsPermutation-middle (x ∷ []) y ys) (IsPermutation-cons y (x ∷ ys) rest.0 rest.1),
            AllPairs-cons NotBelow y rest.0 all rest.2,
          )

  in_order : (xs : List X) → (ys : List X) × IsPermutation xs ys × Ascend ys
  in_order [] = ([], IsPermutation-refl [], λ i j d below within. absurd (omega arith))
  in_order (x ∷ xs) =
      let rest = in_order xs in
      let all = put x rest.0 rest.2 in
      (all.0, IsPermutation-trans (x ∷ xs) (x ∷ rest.0) all.0 (IsPermutation-cons x xs rest.0 rest.1) all.1, all.2)

  -- the same elements, of which none is less than the one before it
  pub sorted : (xs : List X) → (ys : List X) × IsPermutation xs ys × IsSortedBy lt ys
  sorted xs = let s = in_order xs in (s.0, s.1, λ k d from within. s.2 k (k + 1) d (omega arith) within)
